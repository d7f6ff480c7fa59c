-- What a put, a get and a reload add to the history, by the relation of each call.
use Rattle.std.specs.Prelude.{⊤}
use Rattle.std.proofs.Common.{◌≡◌, ℕ, List, Option, None, Some, Result, Ok, Err, inl, inr, ap, sym, subst, ◌∙◌}
use Rattle.kr_config.specs.Kept.{ConfigEntry}
use Rattle.kr_kms.specs.Calls.{Link}
use Rattle.kr_provider.specs.Publication.{Publication}
use Rattle.kr_provider.specs.declared.refusal.ValueNo.TheVariants as value
use Rattle.kr_rollout.specs.declared.answer.Answer.{Answer}
use Rattle.kr_rollout.specs.declared.answer.Answer.TheVariants as answer
use Rattle.kr_history.specs.declared.call.CallNo.{CallNo}
use Rattle.kr_history.specs.declared.call.CallNo.TheVariants as refusal
use Rattle.kr_rollout.specs.declared.event.Event.{Event}
use Rattle.kr_rollout.specs.declared.event.Event.TheVariants as event
use Rattle.kr_rollout.specs.declared.line.Did.{Did}
use Rattle.kr_rollout.specs.declared.line.Did.TheVariants as did
use Rattle.kr_rollout.specs.declared.opening.Entry.{Entry}
use Rattle.kr_history.specs.Acting.{AddsEntry, Caller}
use Rattle.kr_rollout.specs.Callers.{did_of}
use Rattle.kr_fleet.specs.declared.outcome.Loaded.{Loaded}
use Rattle.kr_fleet.specs.declared.outcome.Loaded.TheVariants as loaded
use Rattle.kr_fleet.specs.LoadCalls.{Brings, BringsBy, IsReload, reload_of}
use Rattle.kr_fleet.specs.WriteCalls.{IsWrite, Puts}
use Rattle.kr_script.specs.declared.script.ScriptLine.{ScriptLine}
use Rattle.kr_script.specs.declared.script.ScriptLine.TheVariants as line
use Rattle.kr_workers.specs.declared.files.SettingsFile.{SettingsFile}
use Rattle.kr_workers.specs.Files.{rows_at}
use Rattle.kr_workers.specs.Replies.{Reply}
use Rattle.kr_workers.specs.ScriptLines.{Does, Workplace}
use Rattle.kr_workers.proofs.ByEvents.{IsReading, KeptByEvents, lacking_by, meanwhile_by, read_by}
use Rattle.kr_workers.proofs.Making.{Makes, entry_makes, none_makes, same_makes, then_makes}

-- ---- what an entry of a line may be

-- the line puts, gets or reloads
abbrev pub IsSimple : ScriptLine → Type 0
IsSimple (line.Put resource path plain) = ⊤
IsSimple (line.Get path) = ⊤
IsSimple (line.Reload replica file) = ⊤
IsSimple asked = ⊥

-- it adopts, finds or lets go; puts what the line puts; or brings what the line's file has
abbrev pub IsOf : List SettingsFile → ScriptLine → Did → Type 0
IsOf files asked (did.Adopt replica) = ⊤
IsOf files asked (did.Fetch path) = ⊤
IsOf files asked did.LetGo = ⊤
IsOf files asked (did.Put path resource plain) = asked ≡ line.Put resource path plain
IsOf files asked (did.Reload replica p expect) = (named : ℕ) × (file : List ℕ)
    × (asked ≡ line.Reload named file) × (rows_at files file ≡ Some p.rows)
IsOf files asked other = ⊥

-- ---- parts

module _ {L D : Type 0} (link : L → Link) (left : D → Option (List ℕ))
    (count : D → ℕ) (files : List SettingsFile) (asked : ScriptLine) where
  abbrev pub OfLine : Entry → Type 0
  OfLine e = IsOf files asked e.line.did

  abbrev Adding : (old new : Caller) → Type 0
  Adding old new = Makes OfLine old new

  event_makes : (old new : Caller) (did : Event) (given : Answer)
      → AddsEntry old did given new → IsOf files asked (did_of did) → Adding old new
  event_makes old new did given a own = entry_makes OfLine old new did given a
      (subst (λ d. IsOf files asked d) (sym a.records.did_is) own)

  reading_did : (made : Event) (given : Answer) → IsReading made given
      → IsOf files asked (did_of made)
  reading_did (event.Adopt replica) given r = tt
  reading_did (event.Fetch path) given r = tt
  reading_did event.LetGo given r = tt
  reading_did other given r = absurd r

  kept : KeptByEvents Adding
  kept = record {
    same = same_makes OfLine;
    both = then_makes OfLine;
    reads = λ old new made given r a. event_makes old new made given a (reading_did made given r);
  }

  -- ---- a put

  module _ (resource path plain : List ℕ) (is : asked ≡ line.Put resource path plain) where
    puts_make : (p : Publication) (old new : Caller) (dice after : D) (result : Result ℕ CallNo)
        → Puts left count resource path plain p old dice result new after → Adding old new
    puts_make p old new dice after (Ok revision) d =
        event_makes old new (event.Put path resource plain d.stored) (answer.Written revision)
        d.put is
    puts_make p old new dice after (Err (refusal.Value value.LooksEncrypted)) d =
        same_makes OfLine old new d.1
    puts_make p old new dice after (Err (refusal.Value value.TooLarge)) d =
        same_makes OfLine old new d.1
    puts_make p old new dice after (Err refusal.DiceFailed) d = same_makes OfLine old new d.1
    puts_make p old new dice after (Err refusal.StoreFailed) d =
        event_makes old new (event.Put path resource plain d.stored) answer.StoreFailed d.put is
    puts_make p old new dice after (Err (refusal.StoreFull needed)) d =
        event_makes old new (event.Put path resource plain d.stored) (answer.StoreFull needed)
        d.put is
    puts_make p old new dice after (Err refusal.Spent) d = none_makes OfLine old new d.nothing
    puts_make p old new dice after (Err refusal.NoMemory) (inl d) =
        same_makes OfLine old new d.1
    puts_make p old new dice after (Err refusal.NoMemory) (inr d) =
        event_makes old new (event.Put path resource plain d.stored) answer.NoMemory d.put is
    puts_make p old new dice after (Err other) d = absurd d

    write_makes : (replica : ℕ) (old new : Caller) (dice after : D) (result : Result ℕ CallNo)
        → IsWrite left count resource path plain replica old dice result new after
        → Adding old new
    write_makes replica old new dice after result = meanwhile_by kept (after ≡ dice)
        (λ (number : ℕ) (p : Publication) (from : Caller) (done : Result ℕ CallNo)
        (to : Caller). Puts left count resource path plain p from dice done to after) replica old
        new result (λ h. puts_make h.p h.adopted h.acted dice after h.done h.does)

  -- ---- a reload

  module _ (named : ℕ) (file : List ℕ) (is : asked ≡ line.Reload named file) (rows : List ConfigEntry)
      (there : rows_at files file ≡ Some rows) (replica : ℕ) (old new : Caller)
      (olds news : List L) (dice after : D) where
    brought_makes : (given : Answer)
        → Brings link left count rows (reload_of replica None) old olds dice given new news
        after → Adding old new
    brought_makes given b = event_makes old new (reload_of replica None b.p) given b.brought
        (named, file, is, there ∙ ap (λ r. Some r) (sym b.publishes.0))

    brings_make : (why : CallNo)
        → BringsBy link left count rows (reload_of replica None) replica old olds dice why
        new news after → Adding old new
    brings_make (refusal.PluginFailed name) b = same_makes OfLine old new b.1
    brings_make refusal.DiceFailed b = same_makes OfLine old new b.1
    brings_make (refusal.Unhealthy name field text) b = same_makes OfLine old new b.1
    brings_make refusal.Gone b = brought_makes (answer.Gone replica) b
    brings_make refusal.Spent b = none_makes OfLine old new b.1
    brings_make refusal.NoMemory (inl b) = same_makes OfLine old new b.1
    brings_make refusal.NoMemory (inr (inl b)) = same_makes OfLine old new b.1
    brings_make refusal.NoMemory (inr (inr b)) = brought_makes answer.NoMemory b
    brings_make other b = absurd b

    reload_makes : (result : Result Loaded CallNo)
        → IsReload link left count rows replica old olds dice result new news after
        → Adding old new
    reload_makes (Ok (loaded.Generation number)) b = brought_makes (answer.Reloaded number) b
    reload_makes (Ok (loaded.Refused verdict)) b = brought_makes (answer.Refused verdict) b
    reload_makes (Err why) b = brings_make why b
    reload_makes (Ok other) b = absurd b

  pub line_makes : (replica : ℕ) (it : ScriptLine) → asked ≡ it → IsSimple it
      → (old new : Workplace L D) (reply : Reply)
      → Does link left count files replica it old reply new
      → Makes OfLine old.caller new.caller
  line_makes replica (line.Put resource path plain) is simple old new reply d =
      write_makes resource path plain is replica old.caller new.caller old.dice new.dice d.0 d.2
  line_makes replica (line.Get path) is simple old new reply d =
      read_by kept link path replica old.caller new.caller old.links new.links d.0 d.2
  line_makes replica (line.Reload named file) is simple old new reply (rows, read, inl none) =
      lacking_by kept old new none.1
  line_makes replica (line.Reload named file) is simple old new reply (rows, read, inr d) =
      reload_makes named file is rows read named old.caller new.caller old.links new.links
      old.dice new.dice d.0 d.2
  line_makes replica other is simple old new reply d = absurd simple
