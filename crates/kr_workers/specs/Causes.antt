-- Why a line has its reply: each line has its defined replies; those that tell an answer an own
-- entry bears out, and an unhealthy plugin its status; and a reply that names an object as its
-- fault is told only where the line may use that object, and the count of that very object rose.
use Rattle.std.specs.Prelude.{◌≡◌, ◌<◌, ◌≤◌, ◌+◌, ◌-◌, ◌^◌, ℕ, Bool, true, false, List, [], ◌∷◌, ◌++◌, count_by, length, Contains, Option, Some, ⊤}
use Rattle.std.specs.List.{slice_get}
use Rattle.std.specs.Str.{bytes_eq}
use Rattle.kr_base.specs.Faults.{Rose, counted}
use Rattle.kr_base.specs.Limits.{data_limit}
use Rattle.kr_base.specs.Lines.{of_seat}
use Rattle.kr_envelope.specs.Prefixes.{is_marked}
use Rattle.kr_kms.specs.Calls.{Link}
use Rattle.kr_kms.specs.Exchanges.{Exchange}
use Rattle.kr_kms.specs.Health.{HasBreach}
use Rattle.kr_provider.specs.AskedLinks.{FaultRose, HasLinkWith}
use Rattle.kr_provider.specs.BenchState.{BenchState}
use Rattle.kr_provider.specs.Names.{AreDistinct}
use Rattle.kr_provider.specs.Publication.{Publication}
use Rattle.kr_provider.specs.declared.refusal.ValueNo.{ValueNo}
use Rattle.kr_provider.specs.declared.refusal.ValueNo.TheVariants.{LooksEncrypted, TooLarge}
use Rattle.kr_rollout.specs.declared.line.Gave.{Gave}
use Rattle.kr_rollout.specs.declared.line.Gave.TheVariants as gave
use Rattle.kr_rollout.specs.declared.opening.Entry.{Entry}
use Rattle.kr_history.specs.Acting.{Caller}
use Rattle.kr_rollout.specs.Entries.{seat_of}
use Rattle.kr_rollout.specs.Histories.{state_of}
use Rattle.kr_fleet.specs.LoadCalls.{AreKeysSame}
use Rattle.kr_fleet.specs.ReadCalls.{IsOfValue}
use Rattle.kr_script.specs.declared.script.Part.{Part}
use Rattle.kr_script.specs.declared.script.ScriptLine.{ScriptLine}
use Rattle.kr_script.specs.declared.script.ScriptLine.TheVariants as line
use Rattle.kr_script.specs.declared.told.Told.{Told}
use Rattle.kr_script.specs.declared.told.Told.TheVariants as told
use Rattle.kr_workers.specs.declared.files.SettingsFile.{SettingsFile}
use Rattle.kr_workers.specs.Histories.{StandsIn}
use Rattle.kr_workers.specs.Runs.{IsDone, LineDone}
use Rattle.kr_workers.specs.ScriptLines.{Workplace}

-- ---- the defined replies of a line; faults and want of memory stand beside them

-- data that aren't sealed: they begin as sealed values do, or are too large
abbrev pub IsOfData : (plain : List ℕ) → ValueNo → Type 0
IsOfData plain LooksEncrypted = is_marked plain ≡ true
IsOfData plain TooLarge = data_limit < length plain
IsOfData plain why = ⊥

abbrev pub IsDefined : ScriptLine → Told → Type 0
IsDefined (line.Put resource path plain) (told.Put revision) = ⊤
IsDefined (line.Put resource path plain) (told.Value why) = IsOfData plain why
IsDefined (line.Put resource path plain) told.Full = ⊤
IsDefined (line.Put resource path plain) told.Gone = ⊤
IsDefined (line.Get path) (told.Got revision plain) = ⊤
IsDefined (line.Get path) told.Absent = ⊤
IsDefined (line.Get path) (told.Value why) = IsOfValue why
IsDefined (line.Get path) told.Gone = ⊤
IsDefined (line.Delete path) (told.Deleted revision) = ⊤
IsDefined (line.Delete path) told.Absent = ⊤
IsDefined (line.Delete path) told.Full = ⊤
IsDefined line.Rewrite (told.Rewritten rewritten fresh changed left) = ⊤
IsDefined line.Rewrite told.Full = ⊤
IsDefined line.Rewrite told.Gone = ⊤
IsDefined (line.Reload replica file) (told.Reloaded generation) = ⊤
IsDefined (line.Reload replica file) (told.Refused verdict) = ⊤
IsDefined (line.Reload replica file) (told.Unhealthy name field text) = ⊤
IsDefined (line.Reload replica file) told.Gone = ⊤
IsDefined line.Refresh (told.Refreshed generation) = ⊤
IsDefined line.Refresh told.Unchanged = ⊤
IsDefined line.Refresh (told.Moved generation) = ⊤
IsDefined line.Refresh (told.Unhealthy name field text) = ⊤
IsDefined line.Refresh told.Gone = ⊤
IsDefined (line.Join replica file) (told.Joined generation) = ⊤
IsDefined (line.Join replica file) (told.Present generation) = ⊤
IsDefined (line.Join replica file) (told.Refused verdict) = ⊤
IsDefined (line.Join replica file) (told.Unhealthy name field text) = ⊤
IsDefined (line.Leave replica) (told.Left generation) = ⊤
IsDefined (line.Leave replica) told.Gone = ⊤
IsDefined asked reply = ⊥

-- ---- what was answered

-- the answer that a reply tells
abbrev pub TellsAnswer : Told → Gave → Type 0
TellsAnswer (told.Put revision) given = given ≡ gave.Written revision
TellsAnswer (told.Got revision plain) given = given ≡ gave.Found revision
TellsAnswer (told.Deleted revision) given = given ≡ gave.Written revision
TellsAnswer told.Absent given = given ≡ gave.Absent
TellsAnswer (told.Reloaded generation) given = given ≡ gave.Reloaded generation
TellsAnswer (told.Joined generation) given = given ≡ gave.Joined generation
TellsAnswer (told.Present generation) given = given ≡ gave.Present generation
TellsAnswer (told.Left generation) given = given ≡ gave.Departed generation
TellsAnswer told.Gone given = (replica : ℕ) × (given ≡ gave.Gone replica)
TellsAnswer (told.Refused verdict) given = given ≡ gave.Refused verdict
TellsAnswer (told.Refreshed generation) given = given ≡ gave.Reloaded generation
TellsAnswer (told.Moved generation) given = given ≡ gave.Moved generation
TellsAnswer told.Full given = (needed : ℕ) × (given ≡ gave.StoreFull needed)
TellsAnswer reply given = ⊥

-- an own entry has that answer; it is one of those that are seen now and weren't before
pub record OwnGave (old : Caller) (seen : List Entry) (Is : Gave → Type 0) : Type 0 where
  pub before : List Entry
  pub entry : Entry
  pub behind : List Entry
  pub there : seen ≡ (old.seen ++ before) ++ entry ∷ behind
  pub own : entry.line.seat ≡ old.seat
  pub says : Is entry.line.gave

-- an own entry adopted this configuration; it is one of those that are seen now and weren't before
pub record OwnAdopted (old : Caller) (seen : List Entry) (p : Publication) : Type 0 where
  pub before : List Entry
  pub entry : Entry
  pub behind : List Entry
  pub there : seen ≡ (old.seen ++ before) ++ entry ∷ behind
  pub own : entry.line.seat ≡ old.seat
  pub number : ℕ
  pub says : entry.line.gave ≡ gave.Adopted number
  pub published : entry.published ≡ Some p

-- ---- faults, and want of memory

-- the line may ask plugins
abbrev pub AsksPlugins : ScriptLine → Type 0
AsksPlugins (line.Get path) = ⊤
AsksPlugins line.Rewrite = ⊤
AsksPlugins (line.Reload replica file) = ⊤
AsksPlugins line.Refresh = ⊤
AsksPlugins (line.Join replica file) = ⊤
AsksPlugins asked = ⊥

-- it may draw from the random source of its seat
abbrev pub DrawsBytes : ScriptLine → Type 0
DrawsBytes (line.Put resource path plain) = ⊤
DrawsBytes line.Rewrite = ⊤
DrawsBytes (line.Reload replica file) = ⊤
DrawsBytes line.Refresh = ⊤
DrawsBytes (line.Join replica file) = ⊤
DrawsBytes asked = ⊥

-- it may write to the store
abbrev pub WritesRows : ScriptLine → Type 0
WritesRows (line.Put resource path plain) = ⊤
WritesRows (line.Delete path) = ⊤
WritesRows line.Rewrite = ⊤
WritesRows asked = ⊥

-- it may want memory
abbrev pub TakesMemory : ScriptLine → Type 0
TakesMemory (line.Leave replica) = ⊥
TakesMemory asked = ⊤

-- an own entry says that the store failed, and the store's count rose there; it is one of those
-- that are seen now and weren't before
pub record StoreFails (old : Caller) (seen : List Entry) : Type 0 where
  pub before : List Entry
  pub entry : Entry
  pub behind : List Entry
  pub there : seen ≡ (old.seen ++ before) ++ entry ∷ behind
  pub own : entry.line.seat ≡ old.seat
  pub says : entry.line.gave ≡ gave.StoreFailed
  pub rose : Rose (state_of old.opening (old.seen ++ before)).count entry.line.faults

module _ {L D : Type 0} (link : L → Link) (count : D → ℕ) (asked : ScriptLine)
    (old : Workplace L D) where
  -- from a workplace on up to such a history, such links and such a random source: the reply is
  -- want of memory at a line that may want it; or names the plugin, the seat's own random source
  -- or the store, which the line may use and whose count rose meanwhile; or it is one of the line's
  -- defined replies. A plugin is unhealthy where its status may break that rule; nothing has
  -- changed where no plugin tells another key id than that of its seed in a configuration that the
  -- worker adopted; and each other reply that tells an answer tells that of an own entry
  abbrev pub HasCause : Told → (seen : List Entry) → List L → D → Type 0
  HasCause told.Memory seen links dice = TakesMemory asked
  HasCause (told.FaultPlugin name) seen links dice =
      AsksPlugins asked × FaultRose link name old.links links
  HasCause (told.FaultDice seat) seen links dice =
      DrawsBytes asked × (seat ≡ old.caller.seat) × Rose (count old.dice) (count dice)
  HasCause told.FaultStore seen links dice = WritesRows asked × StoreFails old.caller seen
  HasCause (told.Unhealthy name field text) seen links dice =
      IsDefined asked (told.Unhealthy name field text)
      × HasLinkWith link name (λ it. HasBreach it (Some (field, text))) old.links
  HasCause (told.Value why) seen links dice = IsDefined asked (told.Value why)
  HasCause (told.Rewritten rewritten fresh changed left) seen links dice =
      IsDefined asked (told.Rewritten rewritten fresh changed left)
  HasCause told.Unchanged seen links dice = IsDefined asked told.Unchanged
      × (p : Publication) × OwnAdopted old.caller seen p × AreKeysSame link old.links p.seeds
  HasCause reply seen links dice =
      IsDefined asked reply × OwnGave old.caller seen (TellsAnswer reply)

-- ---- how often

-- the reply names this plugin as failed
abbrev pub tells_plugin : (name : List ℕ) → Told → Bool
tells_plugin name (told.FaultPlugin other) = bytes_eq other name
tells_plugin name reply = false

-- it names a random source
abbrev pub names_dice : Told → Bool
names_dice (told.FaultDice seat) = true
names_dice reply = false

-- it names the store
abbrev pub names_store : Told → Bool
names_store told.FaultStore = true
names_store reply = false

abbrev pub is_failed : Gave → Bool
is_failed gave.StoreFailed = true
is_failed given = false

-- the entry says that the store failed, so by its step the store's count rose there
abbrev pub has_store_failed : Entry → Bool
has_store_failed entry = is_failed entry.line.gave

-- while a count is below its greatest value it rose at least as often as replies name its object
abbrev pub CountsFaults : (named before now : ℕ) → Type 0
CountsFaults named before now = now < 2 ^ 64 - 1 → before + named ≤ now

-- a count behind these replies, where it rose at each that names its object, and at no other
abbrev pub counted_by : (names : Told → Bool) → (replies : List Told) → ℕ → ℕ
counted_by names [] count = count
counted_by names (reply ∷ replies) count = counted_by names replies (counted (names reply) count)

-- so do the counts of a seat's random source and of its links, if these are to different plugins;
-- and the seat's own entries say at least as often that the store failed. The random source's count
-- rose at each reply that names it, by one, and at no other
pub record AreCounted {L D : Type 0} (link : L → Link) (count : D → ℕ) (replies : List Told)
    (own : List Entry) (links : List L) (dice : D) (news : List L) (after : D) : Type 0 where
  pub stored : count_by names_store replies ≤ count_by has_store_failed own
  pub drawn : CountsFaults (count_by names_dice replies) (count dice) (count after)
  pub drawn_just : count after ≡ counted_by names_dice replies (count dice)
  pub asked : AreDistinct link links → (at : ℕ) (it now : L) → slice_get links at ≡ Some it
      → slice_get news at ≡ Some now
      → CountsFaults (count_by (tells_plugin (link it).name) replies) (link it).count
      (link now).count

-- ---- the law

-- each reply to a line that was done has its cause, while the line was done; and by the whole of
-- its worker's run too, up to the history and the bench at the end. And the worker's replies name
-- no object as failed more often than its count rose
pub record RepliesHaveCauses {L D : Type 0} (link : L → Link)
    (step : L → Exchange → L → Type 0) (left : D → Option (List ℕ)) (count : D → ℕ)
    (files : List SettingsFile) : Type 0 where
  pub each : (replica : ℕ) (old new : Workplace L D) (done : LineDone)
      → IsDone link step left count files replica old done new
      → HasCause link count done.line old done.reply new.caller.seen new.links new.dice
  pub whole : (history : List Entry) (part : Part) (first : Workplace L D) (replies : List Told)
      (after : BenchState L D)
      → (stands : StandsIn link step left count files history part first replies after)
      → (done : LineDone) → Contains stands.run done
      → HasCause link count done.line first done.reply history after.links after.dice
  pub often : (history : List Entry) (part : Part) (first : Workplace L D) (replies : List Told)
      (after : BenchState L D)
      → (stands : StandsIn link step left count files history part first replies after)
      → AreCounted link count replies (of_seat seat_of first.caller.seat history) first.links
      first.dice after.links after.dice
