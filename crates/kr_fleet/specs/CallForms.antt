-- The forms of calls that publish or read, whatever is said of how they publish and unseal.
use Rattle.std.specs.Prelude.{◌≡◌, ◌⊎◌, ℕ, List, ◌++◌, Option, None, Result, Ok, Err}
use Rattle.kr_kms.specs.Opens.{Opens}
use Rattle.kr_provider.specs.Publication.{Publication}
use Rattle.kr_provider.specs.declared.refusal.Opened.{Opened}
use Rattle.kr_provider.specs.declared.refusal.PublishNo.{PublishNo}
use Rattle.kr_provider.specs.declared.refusal.PublishNo.TheVariants as publishing
use Rattle.kr_provider.specs.declared.refusal.UnsealNo.{UnsealNo}
use Rattle.kr_provider.specs.declared.refusal.UnsealNo.TheVariants as unsealing
use Rattle.kr_store.specs.declared.rows.Row.{Row}
use Rattle.kr_rollout.specs.declared.answer.Answer.{Answer}
use Rattle.kr_rollout.specs.declared.answer.Answer.TheVariants as answer
use Rattle.kr_rollout.specs.declared.event.Event.{Event}
use Rattle.kr_rollout.specs.declared.event.Event.TheVariants as event
use Rattle.kr_history.specs.Acting.{Caller, AddsEntry}
use Rattle.kr_history.specs.Calls.{AddsNothing}
use Rattle.kr_history.specs.Contents.{IsContent}
use Rattle.kr_history.specs.declared.call.CallNo.{CallNo}
use Rattle.kr_history.specs.declared.call.CallNo.TheVariants as refusal
use Rattle.kr_history.specs.declared.outcome.Joining.{Joining}
use Rattle.kr_history.specs.declared.outcome.Joining.TheVariants as joining
use Rattle.kr_fleet.specs.declared.outcome.Loaded.{Loaded}
use Rattle.kr_fleet.specs.declared.outcome.Loaded.TheVariants as loaded
use Rattle.kr_fleet.specs.declared.outcome.Read.{Read}
use Rattle.kr_fleet.specs.declared.outcome.Read.TheVariants.{Absent, Value}

-- ---- settings are published, and then brought

-- why settings aren't published
abbrev pub publish_refusal : PublishNo → CallNo
publish_refusal (publishing.PluginFailed name) = refusal.PluginFailed name
publish_refusal publishing.DiceFailed = refusal.DiceFailed
publish_refusal (publishing.Unhealthy name field text) = refusal.Unhealthy name field text
publish_refusal publishing.NoMemory = refusal.NoMemory

-- a replica is given the configuration in place of the expected generation
abbrev pub reload_of : (replica : ℕ) → (expect : Option ℕ) → Publication → Event
reload_of replica expect p = event.Reload replica p expect

module _ (Publishes : Result Publication PublishNo → Type 0) where
  -- the settings were published, and the event that brings them was answered so
  pub record BringsWhere (brings : Publication → Event) (old : Caller) (given : Answer)
      (new : Caller) : Type 0 where
    pub p : Publication
    pub publishes : Publishes (Ok p)
    pub brought : AddsEntry old (brings p) given new

  -- they were published, but aren't brought
  abbrev pub BringsNothingWhere : Type 0
  BringsNothingWhere = (p : Publication) × Publishes (Ok p)

  -- they weren't published, and nothing is brought
  abbrev pub PublishesNothingWhere : Caller → PublishNo → Caller → Type 0
  PublishesNothingWhere old why new = Publishes (Err why) × (new ≡ old)

  -- why a call that publishes and brings is cut short
  abbrev pub CutShortWhere : (Publication → Event) → (replica : ℕ) → Caller → CallNo → Caller
      → Type 0
  CutShortWhere brings replica old (refusal.PluginFailed name) new =
      PublishesNothingWhere old (publishing.PluginFailed name) new
  CutShortWhere brings replica old refusal.DiceFailed new =
      PublishesNothingWhere old publishing.DiceFailed new
  CutShortWhere brings replica old (refusal.Unhealthy name field text) new =
      PublishesNothingWhere old (publishing.Unhealthy name field text) new
  CutShortWhere brings replica old refusal.NoMemory new =
      PublishesNothingWhere old publishing.NoMemory new
      ⊎ (BringsNothingWhere × (new ≡ old))
      ⊎ BringsWhere brings old answer.NoMemory new
  CutShortWhere brings replica old refusal.Gone new =
      BringsWhere brings old (answer.Gone replica) new
  CutShortWhere brings replica old refusal.Spent new = BringsNothingWhere × AddsNothing old new
  CutShortWhere brings replica old why new = ⊥

  -- a Reload that expects no generation
  abbrev pub ReloadsWhere : (replica : ℕ) → Caller → Result Loaded CallNo → Caller → Type 0
  ReloadsWhere replica old (Ok (loaded.Generation number)) new =
      BringsWhere (reload_of replica None) old (answer.Reloaded number) new
  ReloadsWhere replica old (Ok (loaded.Refused verdict)) new =
      BringsWhere (reload_of replica None) old (answer.Refused verdict) new
  ReloadsWhere replica old (Ok (loaded.Moved number)) new = ⊥
  ReloadsWhere replica old (Ok (loaded.Unchanged number)) new = ⊥
  ReloadsWhere replica old (Err why) new =
      CutShortWhere (reload_of replica None) replica old why new

  -- a Join, which is never answered that the replica isn't in
  abbrev pub NotJoinedWhere : (replica : ℕ) → Caller → CallNo → Caller → Type 0
  NotJoinedWhere replica old refusal.Gone new = ⊥
  NotJoinedWhere replica old why new = CutShortWhere (event.Join replica) replica old why new

  abbrev pub JoinsWhere : (replica : ℕ) → Caller → Result Joining CallNo → Caller → Type 0
  JoinsWhere replica old (Ok (joining.Generation number)) new =
      BringsWhere (event.Join replica) old (answer.Joined number) new
  JoinsWhere replica old (Ok (joining.Refused verdict)) new =
      BringsWhere (event.Join replica) old (answer.Refused verdict) new
  JoinsWhere replica old (Ok (joining.Present number)) new =
      BringsWhere (event.Join replica) old (answer.Present number) new
  JoinsWhere replica old (Err why) new = NotJoinedWhere replica old why new

-- ---- a row is found, and then unsealed

-- the path has no row, and no content before the Fetch, whatever sources open to
pub record FindsNothing (path : List ℕ) (old new : Caller) : Type 0 where
  pub absent : AddsEntry old (event.Fetch path) answer.Absent new
  pub content : (opens : Opens)
      → IsContent opens old.opening (old.seen ++ absent.others) path None

-- what a row of the path reads as is the answer; where there is none, no plugin is asked
module _ (path : List ℕ) (old new : Caller) (Reads : Row → Result Opened UnsealNo → Type 0)
    (AsksNone : Type 0) where
  abbrev pub ReadsSome : Result Opened UnsealNo → Type 0
  ReadsSome opened = (row : Row) × Reads row opened

  abbrev pub FindsWhere : Result Read CallNo → Type 0
  FindsWhere (Ok Absent) = FindsNothing path old new × AsksNone
  FindsWhere (Ok (Value revision plain stale)) = (row : Row)
      × Reads row (Ok (record { plain = plain; stale = stale })) × (row.revision ≡ revision)
  FindsWhere (Err (refusal.Value why)) = ReadsSome (Err (unsealing.Refused why))
  FindsWhere (Err (refusal.PluginFailed name)) = ReadsSome (Err (unsealing.PluginFailed name))
  FindsWhere (Err refusal.NoMemory) = ReadsSome (Err unsealing.NoMemory)
      ⊎ (AddsEntry old (event.Fetch path) answer.NoMemory new × AsksNone)
  FindsWhere (Err refusal.Spent) = AddsNothing old new × AsksNone
  FindsWhere (Err why) = ⊥
