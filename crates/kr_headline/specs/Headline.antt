-- What the replies of a fleet say: a read by any worker gives the bytes that were put last at its
-- path, or says why not. Begin at `Headline`, the last definition of this page.
use Rattle.std.specs.Prelude.{◌≡◌, ◌≢◌, ◌⊎◌, ◌<◌, ◌≤◌, ◌+◌, ◌==◌, ◌&&◌, ℕ, List, [], ◌∷◌, ◌++◌, fold, length, map, slice_get, All, if◌then◌else◌, Option, None, Some, ⊤}
use Rattle.std.specs.List.{filter}
use Rattle.std.specs.Option.{option_map, option_map_or}
use Rattle.std.specs.Str.{bytes_eq}
use Rattle.std.specs.declared.cmp.Ordering.TheVariants.{Less}
use Rattle.std.specs.Ordering.{nat_cmp}
use Rattle.std.specs.Cmp.Lexicographic.{slice_cmp}
use Rattle.kr_base.specs.Faults.{Rose}
use Rattle.kr_config.specs.Kept.{ConfigEntry as setting}
use Rattle.kr_kms.specs.declared.health.Field.{Field}
use Rattle.kr_provider.specs.Publication.{Publication}
use Rattle.kr_provider.specs.Reading.{Reading, data_of, refused}
use Rattle.kr_provider.specs.declared.refusal.ValueNo.{ValueNo}
use Rattle.kr_store.specs.declared.rows.Row.{Row}
use Rattle.kr_rollout.specs.declared.line.Did.{Did}
use Rattle.kr_rollout.specs.declared.line.Did.TheVariants as did
use Rattle.kr_rollout.specs.declared.line.Gave.{Gave}
use Rattle.kr_rollout.specs.declared.line.Gave.TheVariants as gave
use Rattle.kr_rollout.specs.declared.opening.Entry.{Entry}
use Rattle.kr_script.specs.declared.script.ScriptLine.{ScriptLine}
use Rattle.kr_script.specs.declared.script.ScriptLine.TheVariants as line
use Rattle.kr_script.specs.declared.told.Told.{Told}
use Rattle.kr_script.specs.declared.told.Told.TheVariants as told
use Rattle.kr_workers.specs.Shapes.{PartIs}

-- Signs. `A × B` is both, `A ⊎ B` one of them, `A → B` is B wherever A, and it binds last; `A → ⊥`
-- is not A. `⊤` asks for nothing, `⊥` never holds. `(x : A) → B` is B for each x, `(x : A) × B` is
-- B for some x. `≡` is equal, `≢` is not: of different words, as `data_of x` and `refused y`, no
-- two are equal. A record asks for all its members; `record it { x = y; }` is it with y as its x.
-- Of a definition's rows the first that fits is taken, and the last is of all else: ⊥ in
-- `MayAnswer` and `StoreAnswers`, ⊤ in `OnlyReseals`, and elsewhere that it changes nothing. `[]`
-- is no entry, `e ∷ rest` is e and what follows, `front ++ rest` is one list behind the other, `All
-- P list` is P of each, `slice_get list n` the one at n, from 0. `Some x` is x, `None` is none;
-- `option_map_or f it other` is f of it, or other where it is None. `fold f start list` goes
-- through the list from its head. `λ x. y` is y for an x. Texts and data are lists of their bytes.
--
-- Words. A line of a fleet file is a `line`: `get PATH` is `line.Get path`, and so on. A reply is a
-- `told`: `put R` is `told.Put`, `get R BYTES` is `told.Got` (a reply prints data in base64),
-- `delete R` is `told.Deleted`, `leave G` is `told.Left`, `rewrite A B C D` is `told.Rewritten`,
-- `reload G`, `join G`, `refresh G` are `told.Reloaded`, `told.Joined`, `told.Refreshed`; `refresh
-- unchanged` and `refresh moved G` are `told.Unchanged`, `told.Moved`. `refused N NAME`, of a value
-- or of data, is `told.Value`; `refused VERDICT`, of a configuration, is `told.Refused`. Of faults,
-- `plugin P`, `dice W`, `store` are `told.FaultPlugin`, `told.FaultDice`, `told.FaultStore`. All
-- else has its printed word. R is a revision, the number of a write; G is a generation, the number
-- of a configuration.
--
-- An entry `e` of the journal has `e.line.seat`, the worker by its number; `e.line.did`, what it
-- did; `e.line.gave`, what was answered; `e.line.held`, the number of the configuration that it
-- held before that; `e.line.faults`, how often the store had failed by then. `e.published` is the
-- configuration that it held, or has adopted by this entry; `e.row` the row that was found or
-- written, and `e.replaced` the one that was to be replaced. As it is printed, `adopt b 1` is
-- `did.Adopt` with `gave.Adopted 1`; `fetch /a 7` is `did.Fetch` with `gave.Found 7`, and `fetch /a
-- 0` with `gave.Absent`; `put /a 7`, `delete /a 7` and `replace /a 3 7` have `gave.Written 7`, and
-- `changed /a 3 7` has `gave.Changed 7`; `leave b 1` has `gave.Departed 1`; `letgo` is `did.LetGo`.
-- `gone`, `failed`, `full`, `nothing` stand before the word of what was done: `gave.Gone`,
-- `gave.StoreFailed`, `gave.StoreFull` and `gave.Nothing`, which is want of memory.
--
-- What a line tells decides which entries are its own, and it tells nothing else than this
-- (`PartIs`, of kr_workers). Each Put, Fetch, Delete, Reload, Join or Leave is of the line's own
-- path, resource, data, replica and file:
-- - `get`: with `get R BYTES` or `refused N NAME` they are an Adopt of the worker's own replica, a
--   Fetch that found, and a LetGo. `absent` is the same with a Fetch that found nothing; `fault
--   plugin P` as the first, where P failed meanwhile and the row that was found is P's to read;
--   `gone` is an Adopt alone, which found the replica out.
-- - `put`: an Adopt, a Put and a LetGo, with `put R`, `full` or `fault store` as the Put was
--   answered; no Put where the data can't be sealed (`refused N NAME`) or the random source failed;
--   and `gone`.
-- - `delete`: one Delete alone, `leave`: one Leave alone, with what it was answered.
-- - `reload`, `join`: one Reload or Join alone, which expects nothing; none at all where a plugin
--   or the random source failed, or a plugin isn't healthy.
-- - `refresh`: an Adopt, a Reload of the same replica by the same settings, which expects the
--   number that was adopted, and a LetGo, where a plugin's key has changed; no Reload for `refresh
--   unchanged`, a fault, or a plugin that isn't healthy; and `gone`.
-- - `rewrite`: row by row an Adopt, an After, a Replace where the row is stale, and a LetGo.
-- - Each but `leave` may tell `memory`: it did nothing, or what it asked for came to nothing, or a
--   row that it found wasn't read; what it adopted it let go. That changed nothing, but for rows
--   that a `rewrite` had sealed anew before.
-- Which verdict is told, and the number behind `changed`, this page doesn't say.
--
-- So of a line `get /a` that told `get 7 aGk=`, `told.Got 7 hi`: by `tells` its own entries are
-- three, an Adopt, a Fetch of /a that found revision 7, and a LetGo (`PartIs`, `GetPart`). By
-- `answers` the Fetch found what stood at /a after all entries before it (`MayAnswer`,
-- `stands_at`). And by `gets` that object was put as `hi`, where plugins unwrapped what they had
-- wrapped; or nothing was put there since the start, and it read as `hi` then (`Finds`).

-- ---- what is given

-- A run of a fleet as this page sees it. A replica is one API server, a worker does what is asked
-- of it. Both are named by their numbers, from 0; `at` is the place, from 0, of a line among its
-- worker's lines.
pub record Run : Type 1 where
  -- each worker's replica, its lines, and what it told, a reply for each line; none where there is
  -- no such worker. And the journal, one entry for each step of any of them
  pub replica_of : (worker : ℕ) → ℕ
  pub lines_of : (worker : ℕ) → List ScriptLine
  pub replies_of : (worker : ℕ) → List Told
  pub history : List Entry
  -- at the start: the revision of what stood at a path; the latest revision; the number of the
  -- configuration of a replica that is in; and how often the store had failed
  pub stood_at_start : (path : List ℕ) → Option ℕ
  pub revision_at_start : ℕ
  pub had_at_start : (replica : ℕ) → Option ℕ
  pub store_faults_at_start : ℕ
  -- how many bytes the store may have
  pub limit : ℕ
  -- so many it would have after these entries with what this one writes
  pub NeedsBytes : (front : List Entry) → Entry → (bytes : ℕ) → Type 0
  -- the settings in a file; the configuration of a number, one throughout; and how many there were
  -- after these entries, numbered from 0: those of the start, and each that was taken up since
  pub settings_in : (file : List ℕ) → Option (List setting)
  pub published_of : (generation : ℕ) → Option Publication
  pub configurations_after : (front : List Entry) → ℕ
  -- while the worker did this line it asked the plugin, which failed, and the count of its faults
  -- rose, or stood at its top; or its random source's did. The plugin told it a status that breaks
  -- this rule; each plugin of this configuration told the key that it had as this was published, or
  -- one told another
  pub PluginFailed : (worker at : ℕ) → (name : List ℕ) → Type 0
  pub SourceFailed : (worker at : ℕ) → Type 0
  pub BreaksRule : (worker at : ℕ) → (name : List ℕ) → Field → (text : List ℕ) → Type 0
  pub KeysAreSame : (worker at : ℕ) → Publication → Type 0
  pub KeyChanged : (worker at : ℕ) → Publication → Type 0
  -- settings name a plugin; data can't be sealed by the configuration, for this reason; by it the
  -- plugin reads the row
  pub NamesPlugin : List setting → (name : List ℕ) → Type 0
  pub CannotBeSealed : Publication → (resource plain : List ℕ) → ValueNo → Type 0
  pub ReadBy : (name : List ℕ) → Publication → Row → Type 0
  -- the part of a rewrite's entries that is told so, where at these paths something stood before
  -- each: each row is found, fresh or sealed anew (a page of its own, RewriteParts)
  pub RewriteDone : (worker at : ℕ) → (StoodThere : (path : List ℕ) → Type 0)
      → (part : List Entry) → Told → Type 0
  -- after these entries, with this done too, each configuration that a replica has, or that a
  -- worker holds still, lists a provider for each stored value and for what each other one of them
  -- writes. A value that is damaged has its provider all the same
  pub WouldStayReadable : (front : List Entry) → Did → Type 0
  -- the row that the worker's line found reads so, by the configuration that the entry held; where
  -- a plugin has to be asked, with what it opened the row's wrapped key to, for this worker, at any
  -- time. That it is the right key is supposed below
  pub Reads : (worker at : ℕ) → Entry → Reading → Type 0
  -- a truth says what each wrapped key opens to, and there always is one to speak of. By each, how
  -- a path's row read at the start, by the first replica's configuration
  pub Truths : Type 0
  pub read_at_start : Truths → (path : List ℕ) → Option Reading
  -- the one thing that is supposed: by this truth plugins unwrapped what they had wrapped, as far
  -- as it concerns what the worker's line read at this path, by this entry. Where no plugin is
  -- concerned it holds by itself, of each truth (a law, `nothing_supposed`). It also holds where
  -- the truth agrees with all that they answered in this run, and with the seeds at the start.
  -- It holds of none where a wrapped key of the path was opened to another than was wrapped, by
  -- its plugin or by a published seed: then nothing is said of what is read there
  pub PluginsUnwrapped : Truths → (path : List ℕ) → (worker at : ℕ) → Entry → Type 0

-- ---- what stands after some entries

-- what stands at a path: its revision, and the data that were put; none where it stood there at the
-- start
pub record Object : Type 0 where
  pub revision : ℕ
  pub data_put : Option (List ℕ)

-- a Put that is written sets it, a Delete takes it away, and a Replace, which seals the same data
-- anew, gives it another revision. All else changes nothing
abbrev pub object_after : Gave → Did → (path : List ℕ) → Option Object → Option Object
object_after (gave.Written revision) (did.Put named resource plain) path now = if bytes_eq named
    path then Some (record { revision = revision; data_put = Some plain }) else now
object_after (gave.Written revision) (did.Delete named) path now =
    if bytes_eq named path then None else now
object_after (gave.Written revision) (did.Replace named from) path now = if bytes_eq named path
    then option_map (λ (it : Object). record it { revision = revision }) now else now
object_after given done path now = now

-- the number of a replica's configuration, none where it is out
abbrev pub had_after : Gave → Did → (replica : ℕ) → Option ℕ → Option ℕ
had_after (gave.Reloaded generation) (did.Reload named p expect) replica now =
    if named == replica then Some generation else now
had_after (gave.Joined generation) (did.Join named p) replica now =
    if named == replica then Some generation else now
had_after (gave.Departed generation) (did.Leave named) replica now =
    if named == replica then None else now
had_after given done replica now = now

-- the latest revision
abbrev pub latest_revision : Gave → ℕ → ℕ
latest_revision (gave.Written revision) now = revision
latest_revision given now = now

-- this answer to what was done changes nothing, unless it is a rewrite's and seals a row anew
abbrev pub OnlyReseals : ScriptLine → Gave → Did → Type 0
OnlyReseals asked (gave.Written revision) (did.Replace path from) = asked ≡ line.Rewrite
OnlyReseals asked (gave.Written revision) done = ⊥
OnlyReseals asked (gave.Reloaded generation) done = ⊥
OnlyReseals asked (gave.Joined generation) done = ⊥
OnlyReseals asked (gave.Departed generation) done = ⊥
OnlyReseals asked given done = ⊤

module _ (run : Run) where
  -- `front` are the entries before, from the start on
  abbrev pub stands_at : (path : List ℕ) → (front : List Entry) → Option Object
  stands_at path front =
      fold (λ (now : Option Object) (e : Entry). object_after e.line.gave e.line.did path now)
      (option_map (λ revision. record { revision = revision; data_put = None })
      (run.stood_at_start path)) front

  abbrev pub IsAt : (path : List ℕ) → (front : List Entry) → (revision : ℕ) → Type 0
  IsAt path front revision =
      option_map (λ (it : Object). it.revision) (stands_at path front) ≡ Some revision

  abbrev pub has_at : (replica : ℕ) → (front : List Entry) → Option ℕ
  has_at replica front =
      fold (λ (now : Option ℕ) (e : Entry). had_after e.line.gave e.line.did replica now)
      (run.had_at_start replica) front

  abbrev pub store_faults : (front : List Entry) → ℕ
  store_faults front =
      fold (λ (now : ℕ) (e : Entry). e.line.faults) run.store_faults_at_start front

  -- ---- what may be answered after some entries

  -- a write has the next revision, so it stands once; the store fails where its count rises (or
  -- stands at its top), and is full where it would pass its limit with what is written
  abbrev pub StoreAnswers : (front : List Entry) → Entry → Gave → Type 0
  StoreAnswers front e (gave.Written revision) =
      revision ≡ fold (λ (now : ℕ) (e : Entry). latest_revision e.line.gave now)
      run.revision_at_start front + 1
  StoreAnswers front e gave.StoreFailed = Rose (store_faults front) e.line.faults
  StoreAnswers front e (gave.StoreFull needed) =
      (run.limit < needed) × run.NeedsBytes front e needed
  StoreAnswers front e gave.Nothing = ⊤
  StoreAnswers front e given = ⊥

  -- what is found stands there, and After finds the least path above its own; what a replica has is
  -- adopted, and where it is gone it is out. A replica is given another configuration exactly where
  -- all stays readable, and where it is expected to have a number, only if it has that; it is a new
  -- one, with the next number. Each event but a Leave and a LetGo may lack memory, `gave.Nothing`
  abbrev pub MayAnswer : (front : List Entry) → Entry → Did → Gave → Type 0
  MayAnswer front e (did.Adopt replica) (gave.Adopted generation) =
      (has_at replica front ≡ Some generation) × (e.published ≡ run.published_of generation)
  MayAnswer front e (did.Adopt replica) (gave.Gone named) =
      (named ≡ replica) × (has_at replica front ≡ None)
  MayAnswer front e (did.Adopt replica) gave.Nothing = ⊤
  MayAnswer front e (did.Fetch path) (gave.Found revision) = (row : Row) × (e.row ≡ Some row)
      × (row.path ≡ path) × (row.revision ≡ revision) × IsAt path front revision
  MayAnswer front e (did.Fetch path) gave.Absent = stands_at path front ≡ None
  MayAnswer front e (did.Fetch path) gave.Nothing = ⊤
  MayAnswer front e (did.After above) (gave.Found revision) = (row : Row) × (e.row ≡ Some row)
      × (row.revision ≡ revision) × (slice_cmp nat_cmp above row.path ≡ Less)
      × IsAt row.path front row.revision × ((path : List ℕ) → stands_at path front ≢ None
      → slice_cmp nat_cmp above path ≡ Less → slice_cmp nat_cmp path row.path ≢ Less)
  MayAnswer front e (did.After above) gave.Absent = (path : List ℕ)
      → stands_at path front ≢ None → slice_cmp nat_cmp above path ≢ Less
  MayAnswer front e (did.After above) gave.Nothing = ⊤
  MayAnswer front e (did.Put path resource plain) given = StoreAnswers front e given
  MayAnswer front e (did.Delete path) gave.Absent = stands_at path front ≡ None
  MayAnswer front e (did.Delete path) (gave.Written revision) =
      (stands_at path front ≢ None) × StoreAnswers front e (gave.Written revision)
  MayAnswer front e (did.Delete path) given = StoreAnswers front e given
  MayAnswer front e (did.Replace path from) (gave.Written revision) =
      IsAt path front from × StoreAnswers front e (gave.Written revision)
  MayAnswer front e (did.Replace path from) (gave.Changed last) = IsAt path front from → ⊥
  MayAnswer front e (did.Replace path from) given = StoreAnswers front e given
  MayAnswer front e did.LetGo gave.Released = e.line.held ≢ None
  MayAnswer front e (did.Reload replica p expect) (gave.Reloaded generation) =
      (has_at replica front ≢ None)
      × ((number : ℕ) → expect ≡ Some number → has_at replica front ≡ Some number)
      × (run.published_of generation ≡ Some p) × run.WouldStayReadable front e.line.did
      × (generation ≡ run.configurations_after front)
  MayAnswer front e (did.Reload replica p expect) (gave.Refused verdict) =
      (has_at replica front ≢ None)
      × ((number : ℕ) → expect ≡ Some number → has_at replica front ≡ Some number)
      × (run.WouldStayReadable front e.line.did → ⊥)
  MayAnswer front e (did.Reload replica p expect) (gave.Moved generation) =
      (has_at replica front ≡ Some generation) × (expect ≢ Some generation) × (expect ≢ None)
  MayAnswer front e (did.Reload replica p expect) (gave.Gone named) =
      (named ≡ replica) × (has_at replica front ≡ None)
  MayAnswer front e (did.Reload replica p expect) gave.Nothing = ⊤
  MayAnswer front e (did.Join replica p) (gave.Joined generation) =
      (has_at replica front ≡ None) × (run.published_of generation ≡ Some p)
      × run.WouldStayReadable front e.line.did × (generation ≡ run.configurations_after front)
  MayAnswer front e (did.Join replica p) (gave.Refused verdict) =
      (has_at replica front ≡ None) × (run.WouldStayReadable front e.line.did → ⊥)
  MayAnswer front e (did.Join replica p) (gave.Present generation) =
      has_at replica front ≡ Some generation
  MayAnswer front e (did.Join replica p) gave.Nothing = ⊤
  MayAnswer front e (did.Leave replica) (gave.Departed generation) =
      has_at replica front ≡ Some generation
  MayAnswer front e (did.Leave replica) (gave.Gone named) =
      (named ≡ replica) × (has_at replica front ≡ None)
  MayAnswer front e done given = ⊥

-- ---- the steps of a line

-- an entry, and the place of the line that its worker did then
pub record Step : Type 0 where
  pub entry : Entry
  pub at : ℕ

abbrev pub entries_of : List Step → List Entry
entries_of steps = map (λ (step : Step). step.entry) steps

-- each worker's steps come in the order of its lines
abbrev pub KeepLineOrder : List Step → Type 0
KeepLineOrder [] = ⊤
KeepLineOrder (step ∷ steps) =
    All (λ (next : Step). next.entry.line.seat ≡ step.entry.line.seat → step.at ≤ next.at) steps
    × KeepLineOrder steps

-- those of one line
abbrev pub IsOwn : (worker at : ℕ) → Step → Type 0
IsOwn worker at step = (step.entry.line.seat ≡ worker) × (step.at ≡ at)

abbrev pub own_entries : List Step → (worker at : ℕ) → List Entry
own_entries steps worker at = entries_of (filter
    (λ (step : Step). step.entry.line.seat == worker && step.at == at) steps)

-- ---- the headline

module _ (run : Run) where
  -- the line at a place, and what was told of it
  abbrev pub IsTold : (worker at : ℕ) → ScriptLine → Told → Type 0
  IsTold worker at asked reply = (slice_get (run.lines_of worker) at ≡ Some asked)
      × (slice_get (run.replies_of worker) at ≡ Some reply)

  module _ (steps : List Step) (worker at : ℕ) where
    -- what a `get` found is what stands there after the steps before: the data that were put last,
    -- or else how it read at the start, wherever plugins unwrapped what they had wrapped; and the
    -- row reads so whatever they did
    pub record Finds (path : List ℕ) (revision : ℕ) (reading : Reading) : Type 0 where
      pub front : List Step
      pub fetch : Step
      pub rest : List Step
      pub there : steps ≡ front ++ fetch ∷ rest
      pub own : IsOwn worker at fetch
      pub fetches : fetch.entry.line.did ≡ did.Fetch path
      pub found : fetch.entry.line.gave ≡ gave.Found revision
      pub reads : run.Reads worker at fetch.entry reading
      pub object : Object
      pub stands : stands_at run path (entries_of front) ≡ Some object
      pub revision_is : object.revision ≡ revision
      pub is : (truth : run.Truths) → run.PluginsUnwrapped truth path worker at fetch.entry
          → option_map_or (λ plain. Some (data_of plain)) object.data_put
          (run.read_at_start truth path) ≡ Some reading

  -- Each line has one reply. The history is made of steps, each of which was done for a line of
  -- its worker, in the order of these, and was answered as it may be by what stands after those
  -- before. A reply tells its line's own steps, so what changed something was done for a line that
  -- tells it; where memory lacked the line changed nothing, but for rows that a rewrite sealed
  -- anew, and no rewrite changes more. And a reply to a `get` tells what stands there, or why that
  -- is refused.
  pub record Headline : Type 0 where
    pub all_told : (worker : ℕ) → length (run.replies_of worker) ≡ length (run.lines_of worker)
    pub steps : List Step
    pub entries_are : entries_of steps ≡ run.history
    pub in_order : KeepLineOrder steps
    pub answers : (front : List Entry) (e : Entry) (rest : List Entry)
        → run.history ≡ front ++ e ∷ rest → MayAnswer run front e e.line.did e.line.gave
    -- the store's count of faults never falls
    pub counts : (front : List Entry) (e : Entry) (rest : List Entry)
        → run.history ≡ front ++ e ∷ rest → store_faults run front ≤ e.line.faults
    pub of_lines : All (λ (step : Step). (asked : ScriptLine) × (reply : Told)
        × IsTold step.entry.line.seat step.at asked reply
        × ((reply ≡ told.Memory) ⊎ (asked ≡ line.Rewrite)
        → OnlyReseals asked step.entry.line.gave step.entry.line.did)) steps
    -- what was told has just these steps of its own (see "What a line tells" above); else PartIs is
    -- handed what is known of this run
    pub tells : (worker at : ℕ) (asked : ScriptLine) (reply : Told) → IsTold worker at asked reply
        → PartIs (run.PluginFailed worker at) (run.SourceFailed worker at)
        (run.BreaksRule worker at) (run.KeysAreSame worker at) (run.KeyChanged worker at)
        run.NamesPlugin run.CannotBeSealed run.ReadBy (run.RewriteDone worker at
        (λ path. (front : List Step) (step : Step) (rest : List Step)
        → steps ≡ front ++ step ∷ rest → IsOwn worker at step
        → stands_at run path (entries_of front) ≢ None) (own_entries steps worker at)) worker
        (run.replica_of worker) (own_entries steps worker at) run.settings_in asked reply
    pub gets : (worker at : ℕ) (path bytes : List ℕ) (revision : ℕ)
        → IsTold worker at (line.Get path) (told.Got revision bytes)
        → Finds steps worker at path revision (data_of bytes)
    pub refuses : (worker at : ℕ) (path : List ℕ) (why : ValueNo)
        → IsTold worker at (line.Get path) (told.Value why)
        → (revision : ℕ) × Finds steps worker at path revision (refused why)
