-- A file in the making: what its statements so far say, and what one more makes of it.
use Rattle.std.specs.Prelude.{ℕ, ◌+◌, ◌&&◌, not, nat_lt, Bool, true, false, List, []}
use Rattle.std.specs.Prelude.{◌∷◌, ◌++◌, length, map, codes, Option, None, Some, Result, Ok, Err}
use Rattle.std.specs.Prelude.{if◌then◌else◌, option_and_then, is_some}
use Rattle.std.specs.List.{list_any}
use Rattle.std.specs.Option.{option_map, option_to_list}
use Rattle.std.specs.Str.{bytes_eq}
use Rattle.kr_base.specs.Rules.{is_name, is_path, is_resource}
use Rattle.kr_script.specs.declared.script.ScriptLine.{ScriptLine}
use Rattle.kr_script.specs.declared.script.ScriptLine.TheVariants.{Put, Get, Delete, Rewrite, Reload}
use Rattle.kr_script.specs.declared.script.ScriptLine.TheVariants.{Refresh, Join, Leave}
use Rattle.kr_script.specs.declared.statement.Statement.{Statement}
use Rattle.kr_script.specs.declared.statement.Statement.TheVariants as statement
use Rattle.kr_script.specs.declared.statement.Keyword.{Keyword}
use Rattle.kr_script.specs.declared.statement.Keyword.TheVariants as keyword
use Rattle.kr_script.specs.declared.line_error.ScriptLineError.{ScriptLineError}
use Rattle.kr_script.specs.declared.line_error.ScriptLineError.TheVariants as line_error
use Rattle.kr_script.specs.declared.draft.Draft.{Draft as Held}
use Rattle.kr_script.specs.Fleets.{Fleet, Worker, worker_of}
use Rattle.kr_script.specs.Rows.{Row}
use Rattle.kr_script.specs.Statements.{data_of}
use Rattle.kr_script.specs.Rules.{is_gap, is_long, replica_limit, worker_limit}

-- whether the head was read, the replicas, the workers before the last one, and the last one
pub record Draft : Type 0 where
  pub begun : Bool
  pub replicas : List (List ℕ × List ℕ)
  pub workers : List Worker
  pub last : Option Worker

abbrev pub draft_of : Held → Draft
draft_of held = record {
  begun = held.begun;
  replicas = held.replicas.0;
  workers = map worker_of held.workers.0;
  last = option_map worker_of held.last;
}

abbrev pub start : Draft
start = record { begun = false; replicas = []; workers = []; last = None }

abbrev pub workers_in : Draft → List Worker
workers_in draft = draft.workers ++ option_to_list draft.last

abbrev pub fleet_in : Draft → Fleet
fleet_in draft = record { replicas = draft.replicas; workers = workers_in draft }

abbrev pub is_empty : {T : Type 0} → List T → Bool
is_empty [] = true
is_empty (x ∷ xs) = false

-- words of a number

abbrev pub one_word : Row → Option (List ℕ)
one_word [] = None
one_word (a ∷ []) = Some a
one_word (a ∷ (b ∷ row)) = None

abbrev pub two_words : Row → Option (List ℕ × List ℕ)
two_words [] = None
two_words (a ∷ []) = None
two_words (a ∷ (b ∷ [])) = Some (a, b)
two_words (a ∷ (b ∷ (c ∷ row))) = None

abbrev pub three_words : Row → Option (List ℕ × List ℕ × List ℕ)
three_words [] = None
three_words (a ∷ []) = None
three_words (a ∷ (b ∷ [])) = None
three_words (a ∷ (b ∷ (c ∷ []))) = Some (a, b, c)
three_words (a ∷ (b ∷ (c ∷ (d ∷ row)))) = None

abbrev pub word_of : Keyword → List ℕ
word_of keyword.Fleet = codes "fleet"
word_of keyword.Replica = codes "replica"
word_of keyword.Worker = codes "worker"
word_of keyword.Put = codes "put"
word_of keyword.Get = codes "get"
word_of keyword.Delete = codes "delete"
word_of keyword.Rewrite = codes "rewrite"
word_of keyword.Reload = codes "reload"
word_of keyword.Refresh = codes "refresh"
word_of keyword.Join = codes "join"
word_of keyword.Leave = codes "leave"

abbrev pub keyword_of : List ℕ → Option Keyword
keyword_of word = if bytes_eq word (codes "fleet") then Some keyword.Fleet
    else if bytes_eq word (codes "replica") then Some keyword.Replica
    else if bytes_eq word (codes "worker") then Some keyword.Worker
    else if bytes_eq word (codes "put") then Some keyword.Put
    else if bytes_eq word (codes "get") then Some keyword.Get
    else if bytes_eq word (codes "delete") then Some keyword.Delete
    else if bytes_eq word (codes "rewrite") then Some keyword.Rewrite
    else if bytes_eq word (codes "reload") then Some keyword.Reload
    else if bytes_eq word (codes "refresh") then Some keyword.Refresh
    else if bytes_eq word (codes "join") then Some keyword.Join
    else if bytes_eq word (codes "leave") then Some keyword.Leave
    else None

-- the number of the replica of that name, the first of these having this number
abbrev pub place_from : ℕ → List (List ℕ × List ℕ) → List ℕ → Option ℕ
place_from number [] name = None
place_from number (replica ∷ replicas) name =
    if bytes_eq replica.0 name then Some number else place_from (number + 1) replicas name

abbrev pub replica_number : List (List ℕ × List ℕ) → List ℕ → Option ℕ
replica_number replicas name = place_from 0 replicas name

abbrev pub knows_replica : List (List ℕ × List ℕ) → List ℕ → Bool
knows_replica replicas name = list_any (λ replica. bytes_eq replica.0 name) replicas

abbrev pub knows_worker : List Worker → List ℕ → Bool
knows_worker workers name = list_any (λ worker. bytes_eq worker.name name) workers

-- a replica that may follow
abbrev pub may_be_replica : Draft → List ℕ → List ℕ → Bool
may_be_replica draft name file = not (is_some draft.last) && (is_name name
    && (not (knows_replica draft.replicas name) && not (is_empty draft.replicas && is_gap file)))

abbrev pub replica_in : Draft → List ℕ × List ℕ → Option Statement
replica_in draft words = if may_be_replica draft words.0 words.1
    then Some (statement.Replica words.0 words.1) else None

abbrev pub may_be_worker : Draft → List ℕ → Bool
may_be_worker draft name = is_name name && (not (knows_worker draft.workers name)
    && not (knows_worker (option_to_list draft.last) name))

abbrev pub worker_in : Draft → List ℕ × List ℕ → Option Statement
worker_in draft words = if may_be_worker draft words.0
    then option_map (statement.Worker words.0) (replica_number draft.replicas words.1) else None

abbrev pub put_in : List ℕ × List ℕ × List ℕ → Option ScriptLine
put_in words = if is_resource words.0 && is_path words.1
    then option_map (Put words.0 words.1) (data_of words.2) else None

abbrev pub get_in : List ℕ → Option ScriptLine
get_in path = if is_path path then Some (Get path) else None

abbrev pub delete_in : List ℕ → Option ScriptLine
delete_in path = if is_path path then Some (Delete path) else None

abbrev pub reload_in : List (List ℕ × List ℕ) → List ℕ × List ℕ → Option ScriptLine
reload_in replicas words =
    option_map (λ number. Reload number words.1) (replica_number replicas words.0)

abbrev pub join_in : List (List ℕ × List ℕ) → List ℕ × List ℕ → Option ScriptLine
join_in replicas words =
    option_map (λ number. Join number words.1) (replica_number replicas words.0)

abbrev pub leave_in : List (List ℕ × List ℕ) → List ℕ → Option ScriptLine
leave_in replicas name = option_map Leave (replica_number replicas name)

-- a line of a worker
abbrev pub line_in : List (List ℕ × List ℕ) → Keyword → Row → Option ScriptLine
line_in replicas keyword.Put row = option_and_then put_in (three_words row)
line_in replicas keyword.Get row = option_and_then get_in (one_word row)
line_in replicas keyword.Delete row = option_and_then delete_in (one_word row)
line_in replicas keyword.Rewrite row = if is_empty row then Some Rewrite else None
line_in replicas keyword.Reload row = option_and_then (reload_in replicas) (two_words row)
line_in replicas keyword.Refresh row = if is_empty row then Some Refresh else None
line_in replicas keyword.Join row = option_and_then (join_in replicas) (two_words row)
line_in replicas keyword.Leave row = option_and_then (leave_in replicas) (one_word row)
line_in replicas keyword.Fleet row = None
line_in replicas keyword.Replica row = None
line_in replicas keyword.Worker row = None

abbrev pub line_of_worker : Draft → Keyword → Row → Option Statement
line_of_worker draft key row = if is_some draft.last
    then option_map statement.Line (line_in draft.replicas key row) else None

-- the statement that the words write behind what was said so far
abbrev pub said_behind : Draft → Keyword → Row → Option Statement
said_behind draft keyword.Fleet row = None
said_behind draft keyword.Replica row = option_and_then (replica_in draft) (two_words row)
said_behind draft keyword.Worker row = option_and_then (worker_in draft) (two_words row)
said_behind draft keyword.Put row = line_of_worker draft keyword.Put row
said_behind draft keyword.Get row = line_of_worker draft keyword.Get row
said_behind draft keyword.Delete row = line_of_worker draft keyword.Delete row
said_behind draft keyword.Rewrite row = line_of_worker draft keyword.Rewrite row
said_behind draft keyword.Reload row = line_of_worker draft keyword.Reload row
said_behind draft keyword.Refresh row = line_of_worker draft keyword.Refresh row
said_behind draft keyword.Join row = line_of_worker draft keyword.Join row
said_behind draft keyword.Leave row = line_of_worker draft keyword.Leave row

-- the head: `fleet 1`
abbrev pub is_version : List ℕ → Bool
is_version word = bytes_eq word (codes "1")

abbrev pub head_of : Keyword → Row → Option Statement
head_of keyword.Fleet row = option_and_then
    (λ word. if is_version word then Some statement.Head else None) (one_word row)
head_of keyword.Replica row = None
head_of keyword.Worker row = None
head_of keyword.Put row = None
head_of keyword.Get row = None
head_of keyword.Delete row = None
head_of keyword.Rewrite row = None
head_of keyword.Reload row = None
head_of keyword.Refresh row = None
head_of keyword.Join row = None
head_of keyword.Leave row = None

abbrev pub said_by : Draft → Keyword → Row → Option Statement
said_by draft key row = if draft.begun then said_behind draft key row else head_of key row

abbrev pub said : Draft → List ℕ → Row → Option Statement
said draft word row = option_and_then (λ key. said_by draft key row) (keyword_of word)

abbrev pub statement_of : Draft → Row → Option Statement
statement_of draft [] = None
statement_of draft (word ∷ row) = said draft word row

-- what becomes of it

abbrev pub with_line : ScriptLine → Worker → Worker
with_line line worker = record worker { lines = worker.lines ++ line ∷ [] }

abbrev pub new_worker : List ℕ → ℕ → Worker
new_worker name replica = record { name = name; replica = replica; lines = [] }

abbrev pub with_statement : Draft → Statement → Draft
with_statement draft statement.Head = record draft { begun = true }
with_statement draft (statement.Replica name file) =
    record draft { replicas = draft.replicas ++ (name, file) ∷ [] }
with_statement draft (statement.Worker name replica) =
    record draft { workers = workers_in draft; last = Some (new_worker name replica) }
with_statement draft (statement.Line line) =
    record draft { last = option_map (with_line line) draft.last }

-- the limit that one more statement passes
abbrev pub passes : Draft → Statement → Option ScriptLineError
passes draft statement.Head = None
passes draft (statement.Replica name file) =
    if nat_lt (length draft.replicas) replica_limit then None else Some line_error.Replicas
passes draft (statement.Worker name replica) =
    if nat_lt (length (workers_in draft)) worker_limit then None else Some line_error.Workers
passes draft (statement.Line line) = if is_long line then Some line_error.TooLarge else None

abbrev pub draft_within : Draft → Statement → Option ScriptLineError → Result Draft ScriptLineError
draft_within draft said None = Ok (with_statement draft said)
draft_within draft said (Some why) = Err why

abbrev pub step_by : Draft → Option Statement → Result Draft ScriptLineError
step_by draft None = Err line_error.Form
step_by draft (Some said) = draft_within draft said (passes draft said)

abbrev pub step : Draft → Row → Result Draft ScriptLineError
step draft row = step_by draft (statement_of draft row)
