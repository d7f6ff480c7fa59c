-- What a reply to a `get` says: the content of the path before the line's own Fetch.
use Rattle.std.specs.Prelude.{◌≡◌, ℕ, List, [], ◌∷◌, ◌++◌, Option, None, Some, ⊤}
use Rattle.kr_base.specs.Lines.{of_seat}
use Rattle.kr_kms.specs.Calls.{Link}
use Rattle.kr_kms.specs.Exchanges.{Exchange}
use Rattle.kr_kms.specs.Opens.{Opens}
use Rattle.kr_kms.specs.declared.seeds.SeedKey.{SeedKey}
use Rattle.kr_provider.specs.BenchState.{BenchState}
use Rattle.kr_provider.specs.Envelopes.{Envelope, HasObject}
use Rattle.kr_provider.specs.Publication.{Publication, list_at}
use Rattle.kr_provider.specs.Readers.{reader_in}
use Rattle.kr_provider.specs.Reading.{Reading, data_of, refused, value_reading}
use Rattle.kr_provider.specs.Unsealing.{HasNoSource, TakesSeed}
use Rattle.kr_store.specs.declared.rows.Row.{Row}
use Rattle.kr_rollout.specs.declared.line.Did.TheVariants as did
use Rattle.kr_rollout.specs.declared.line.Gave.TheVariants as gave
use Rattle.kr_rollout.specs.declared.opening.Entry.{Entry}
use Rattle.kr_rollout.specs.declared.opening.Opening.{Opening}
use Rattle.kr_history.specs.Contents.{IsContent}
use Rattle.kr_history.specs.Honesty.{IsHonest}
use Rattle.kr_rollout.specs.Entries.{seat_of}
use Rattle.kr_fleet.specs.ReadCalls.{IsContentByAny, IsKnownContent}
use Rattle.kr_script.specs.declared.script.Part.{Part}
use Rattle.kr_script.specs.declared.script.ScriptLine.TheVariants as line
use Rattle.kr_script.specs.declared.told.Told.{Told}
use Rattle.kr_script.specs.declared.told.Told.TheVariants as told
use Rattle.kr_workers.specs.declared.files.SettingsFile.{SettingsFile}
use Rattle.kr_workers.specs.Heard.{AgreesWithHeard, Heard}
use Rattle.kr_workers.specs.Histories.{StandsIn}
use Rattle.kr_workers.specs.Runs.{LineDone, entries_in, exchanges_in}
use Rattle.kr_workers.specs.ScriptLines.{Workplace}

-- a line's own Fetch of the path: the line's part is an Adopt, this Fetch and a LetGo, and before
-- the Fetch its seat has the entries of the lines ahead and this Adopt. This holds of what stands
-- before the Fetch and of the Fetch
pub record FetchesWhere (history : List Entry) (seat : ℕ) (path : List ℕ)
    (ahead part : List Entry) (Holds : (front : List Entry) → (fetch : Entry) → Type 0)
    : Type 0 where
  pub front : List Entry
  pub adopt : Entry
  pub fetch : Entry
  pub let_go : Entry
  pub rest : List Entry
  pub there : history ≡ front ++ fetch ∷ rest
  pub own : fetch.line.seat ≡ seat
  pub fetches : fetch.line.did ≡ did.Fetch path
  pub part_is : part ≡ adopt ∷ (fetch ∷ (let_go ∷ []))
  pub its : of_seat seat_of seat front ≡ ahead ++ adopt ∷ []
  pub holds : Holds front fetch

-- the row that was fetched reads so by the configuration that the seat held, and so does the
-- content before the fetch: whatever sources open to, where no configuration names a plugin; and,
-- whatever they name, by any openings by which what stands at the path before is honest and the
-- value's source is what it was unwrapped to. A value that no plugin reads has no source, nor has
-- an object that is refused, and a published seed that is the object's is the source
pub record ReadsContent (o : Opening) (path : List ℕ) (reading : Reading)
    (front : List Entry) (fetch : Entry) : Type 0 where
  pub known : IsKnownContent o front path reading
  pub p : Publication
  pub row : Row
  pub envelope : Envelope
  pub held : fetch.published ≡ Some p
  pub found : fetch.row ≡ Some row
  pub object : HasObject (reader_in (list_at p row.resource) row.stored) row.stored envelope.object
  pub seed : TakesSeed p.seeds (reader_in (list_at p row.resource) row.stored) envelope
  pub unsourced : HasNoSource envelope
  pub reads : value_reading envelope (list_at p row.resource) path row.stored ≡ reading
  pub by_any : IsContentByAny o front (list_at p row.resource) path row.stored envelope reading

-- by any openings that agree with what plugins told the worker up to this reply, and by which what
-- stands before is honest, this is the content
abbrev pub IsHeardContent : Heard → Opening → (path : List ℕ) → Reading → (front : List Entry)
    → Type 0
IsHeardContent heard o path reading front = (opens : Opens) → AgreesWithHeard opens heard
    → IsHonest opens o front → IsContent opens o front path (Some reading)

-- `got` tells the revision that was found and the content, `absent` that there is none, whatever
-- sources open to, and a refusal is that of the content
abbrev pub TellsGotContent : Heard → Opening → (history : List Entry) → (seat : ℕ)
    → (path : List ℕ) → (ahead part : List Entry) → Told → Type 0
TellsGotContent heard o history seat path ahead part (told.Got revision plain) =
    FetchesWhere history seat path ahead part (λ front fetch.
    (fetch.line.gave ≡ gave.Found revision) × ReadsContent o path (data_of plain) front fetch
    × IsHeardContent heard o path (data_of plain) front)
TellsGotContent heard o history seat path ahead part told.Absent =
    FetchesWhere history seat path ahead part (λ front fetch. (fetch.line.gave ≡ gave.Absent)
    × ((opens : Opens) → IsContent opens o front path None))
TellsGotContent heard o history seat path ahead part (told.Value why) =
    FetchesWhere history seat path ahead part (λ front fetch. (revision : ℕ)
    × (fetch.line.gave ≡ gave.Found revision) × ReadsContent o path (refused why) front fetch
    × IsHeardContent heard o path (refused why) front)
TellsGotContent heard o history seat path ahead part reply = ⊤

-- what was heard up to a line, where the bench had kept these seeds before the run
abbrev pub heard_by : (kept : List (SeedKey × List ℕ)) → (ahead : List LineDone) → LineDone → Heard
heard_by kept ahead done =
    record { kept = kept; exchanges = exchanges_in ahead ++ done.exchanges }

-- so does each reply to a `get` of a seat's run
abbrev pub TellContents : (kept : List (SeedKey × List ℕ)) → Opening
    → (history : List Entry) → (seat : ℕ) → List LineDone → Type 0
TellContents kept o history seat run = (ahead : List LineDone) (done : LineDone)
    (behind : List LineDone) → run ≡ ahead ++ done ∷ behind
    → (path : List ℕ) → done.line ≡ line.Get path
    → TellsGotContent (heard_by kept ahead done) o history seat path (entries_in ahead)
    done.part done.reply

-- and of a worker that saw nothing before and whose lines stand in a history
abbrev pub GetsTellContent : {L D : Type 0} → (L → Link) → (L → Exchange → L → Type 0)
    → (D → Option (List ℕ)) → (D → ℕ) → List SettingsFile → Type 0
GetsTellContent {L} {D} link step left count files = (history : List Entry) (part : Part)
    (first : Workplace L D) (replies : List Told) (after : BenchState L D)
    → (stands : StandsIn link step left count files history part first replies after)
    → first.caller.seen ≡ []
    → TellContents first.cache.rows first.caller.opening history first.caller.seat stands.run
