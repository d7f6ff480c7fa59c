-- The part of each line that was done has its shape: while the line was done, the count of the
-- plugin or of the random source rose that its reply names, and the rewrite met all that it had to.
use Rattle.std.specs.Prelude.{ℕ, List, [], Option, Some}
use Rattle.kr_base.specs.Faults.{Rose}
use Rattle.kr_kms.specs.Calls.{Link}
use Rattle.kr_kms.specs.Exchanges.{Exchange}
use Rattle.kr_kms.specs.Health.{HasBreach}
use Rattle.kr_provider.specs.AskedLinks.{FaultRose, HasLinkWith}
use Rattle.kr_rollout.specs.declared.opening.Entry.{Entry}
use Rattle.kr_fleet.specs.LoadCalls.{AreKeysSame, IsKeyChanged}
use Rattle.kr_rewrite.specs.Drives.{CoversLive}
use Rattle.kr_script.specs.declared.script.ScriptLine.{ScriptLine}
use Rattle.kr_script.specs.declared.told.Told.{Told}
use Rattle.kr_workers.specs.declared.files.SettingsFile.{SettingsFile}
use Rattle.kr_workers.specs.Files.{rows_at}
use Rattle.kr_workers.specs.Runs.{IsDone, LineDone}
use Rattle.kr_workers.specs.ScriptLines.{Workplace}
use Rattle.kr_workers.specs.Configurations.{CannotBeSealed, IsFresh, IsLeft, IsStale, NamesPlugin, ReadBy}
use Rattle.kr_workers.specs.RewriteParts.{RewritePart}
use Rattle.kr_workers.specs.Shapes.{PartIs}

-- by the links and the random source before the line and behind it
abbrev pub HasShape : {L D : Type 0} → (L → Link) → (D → ℕ) → List SettingsFile → (replica : ℕ)
    → (old new : Workplace L D) → (part : List Entry) → ScriptLine → Told → Type 0
HasShape link count files replica old new part asked reply =
    PartIs (λ name. FaultRose link name old.links new.links)
    (Rose (count old.dice) (count new.dice))
    (λ name field text. HasLinkWith link name (λ it. HasBreach it (Some (field, text))) old.links)
    (λ p. AreKeysSame link old.links p.seeds) (λ p. IsKeyChanged link old.links p.seeds)
    NamesPlugin CannotBeSealed ReadBy
    (RewritePart IsFresh IsStale IsLeft (λ name. FaultRose link name old.links new.links)
    (Rose (count old.dice) (count new.dice)) (λ met. CoversLive [] met old.caller new.caller)
    old.caller.seat replica part) old.caller.seat replica part (rows_at files) asked reply

abbrev pub PartsHaveShape : {L D : Type 0} → (L → Link) → (L → Exchange → L → Type 0)
    → (D → Option (List ℕ)) → (D → ℕ) → List SettingsFile → Type 0
PartsHaveShape {L} {D} link step left count files = (replica : ℕ) (old new : Workplace L D)
    (done : LineDone) → IsDone link step left count files replica old done new
    → HasShape link count files replica old new done.part done.line done.reply
