-- The statements of a fleet file, and the words in which each is written.
use Rattle.std.specs.Prelude.{◌≡◌, ℕ, ⊤, List, [], ◌∷◌, ◌++◌, map, codes, Option, Some}
use Rattle.std.specs.Prelude.{slice_index_or, if◌then◌else◌}
use Rattle.std.specs.List.{flat_map}
use Rattle.std.specs.Result.{result_ok}
use Rattle.std.specs.Str.{bytes_eq}
use Rattle.base64.specs.Engines.{standard}
use Rattle.base64.specs.GeneralPurpose.{decode_of}
use Rattle.kr_script.specs.declared.script.ScriptLine.{ScriptLine}
use Rattle.kr_script.specs.declared.script.ScriptLine.TheVariants.{Put, Get, Delete, Rewrite, Reload}
use Rattle.kr_script.specs.declared.script.ScriptLine.TheVariants.{Refresh, Join, Leave}
use Rattle.kr_script.specs.declared.statement.Statement.{Statement}
use Rattle.kr_script.specs.declared.statement.Statement.TheVariants.{Head, Replica, Worker, Line}
use Rattle.kr_script.specs.Fleets.{Fleet}
use Rattle.kr_script.specs.Fleets as fleets
use Rattle.kr_script.specs.Rows.{Row}

-- `-` is no data, any other word is strict standard base64 of the data
abbrev pub data_of : List ℕ → Option (List ℕ)
data_of word = if bytes_eq word (codes "-") then Some [] else result_ok (decode_of standard word)

-- the name of the replica with this number
abbrev pub replica_name : List (List ℕ × List ℕ) → ℕ → List ℕ
replica_name replicas number = (slice_index_or replicas number ([], [])).0

-- the words are how the line is written, where these are the replicas
abbrev pub WritesLine : List (List ℕ × List ℕ) → Row → ScriptLine → Type 0
WritesLine replicas row (Put resource path plain) =
    (word : List ℕ) × (row ≡ codes "put" ∷ (resource ∷ (path ∷ (word ∷ []))))
    × (data_of word ≡ Some plain)
WritesLine replicas row (Get path) = row ≡ codes "get" ∷ (path ∷ [])
WritesLine replicas row (Delete path) = row ≡ codes "delete" ∷ (path ∷ [])
WritesLine replicas row Rewrite = row ≡ codes "rewrite" ∷ []
WritesLine replicas row (Reload replica file) =
    row ≡ codes "reload" ∷ (replica_name replicas replica ∷ (file ∷ []))
WritesLine replicas row Refresh = row ≡ codes "refresh" ∷ []
WritesLine replicas row (Join replica file) =
    row ≡ codes "join" ∷ (replica_name replicas replica ∷ (file ∷ []))
WritesLine replicas row (Leave replica) = row ≡ codes "leave" ∷ (replica_name replicas replica ∷ [])

-- the words are how the statement is written
abbrev pub WritesStatement : List (List ℕ × List ℕ) → Row → Statement → Type 0
WritesStatement replicas row Head = row ≡ codes "fleet" ∷ (codes "1" ∷ [])
WritesStatement replicas row (Replica name file) = row ≡ codes "replica" ∷ (name ∷ (file ∷ []))
WritesStatement replicas row (Worker name replica) =
    row ≡ codes "worker" ∷ (name ∷ (replica_name replicas replica ∷ []))
WritesStatement replicas row (Line line) = WritesLine replicas row line

-- row by row
abbrev pub WriteAll : List (List ℕ × List ℕ) → List Row → List Statement → Type 0
WriteAll replicas [] [] = ⊤
WriteAll replicas (row ∷ rows) (said ∷ more) =
    WritesStatement replicas row said × WriteAll replicas rows more
WriteAll replicas rows statements = ⊥

abbrev pub replica_statement : List ℕ × List ℕ → Statement
replica_statement replica = Replica replica.0 replica.1

-- a worker, and behind it its lines
abbrev pub worker_statements : fleets.Worker → List Statement
worker_statements worker = Worker worker.name worker.replica ∷ map Line worker.lines

-- the head of the file, the replicas, and the workers
abbrev pub statements_of : Fleet → List Statement
statements_of fleet = Head ∷ (map replica_statement fleet.replicas
    ++ flat_map worker_statements fleet.workers)
