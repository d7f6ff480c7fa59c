-- What stands in front of each row of a drive: the rows so far are kept, and the report is said.
use Rattle.std.proofs.Common.{ℕ, ◌≤◌, List, Option, Result, Ok, refl, arith}
use Rattle.kr_kms.specs.Calls.{Link}
use Rattle.kr_kms.specs.Outside.{same_name}
use Rattle.kr_history.specs.declared.call.CallNo.{CallNo}
use Rattle.kr_history.specs.declared.call.CallNo.TheVariants as no
use Rattle.kr_cmd_steps.specs.Environment.{Environment, IsStateOf, IsHome, with_what_is_said}
use Rattle.kr_cmd_steps.specs.RewriteSteps.{Progress, reporting}
use Rattle.kr_cmd_messages.specs.Reports.{report_text}
use Rattle.kr_cmd_steps.specs.Steps.{Steps, StepState, with_said, with_told}
use Rattle.kr_cmd_steps.specs.StoreFiles.{Stored, HoldsRows}
use Rattle.kr_cmd_messages.specs.declared.refusal.Stop.{Stop}
use Rattle.kr_cmd_steps.specs.inner.Phases.{Does}
use Rattle.kr_cmd_steps.proofs.RunTo.{files_same, goes_on, nothing, reach}
use Rattle.kr_cmd_steps.proofs.Lending.{home_same}
use Rattle.kr_cmd_steps.proofs.Loading.{no_less, told_so}
use Rattle.kr_cmd_rewrite.proofs.DriveEnds.{Unfailed}
use Rattle.kr_cmd_rewrite.proofs.RowCuts.{count_by, told_by}
use Rattle.kr_cmd_rewrite.proofs.Said.{All_lent}

-- what the tape tells, and its count, where the row behind ends so
pub held_by : (store : Stored) (told : Option (List ℕ)) (before now : ℕ) (why : CallNo)
    → before ≤ now → Unfailed why (HoldsRows store told)
    → (before ≤ count_by before now why) × HoldsRows store (told_by told why)
held_by store told before now no.StoreFailed more h = (omega arith, tt)
held_by store told before now why more h = (more, h)

module _ {L : Type 0} (link : L → Link) (links : List L) (left : Option (List ℕ)) (drawn : ℕ)
    (name : List ℕ) (at : Progress) (told now : Option (List ℕ)) (before count : ℕ)
    (more : before ≤ count) (holds : HoldsRows at.store now) (a : Environment) where
  abbrev Old : Environment
  Old = All_lent link links left drawn name told before a

  abbrev Mid : Environment
  Mid = All_lent link links left drawn name now count
      (with_what_is_said (report_text at.counts) a)

  abbrev then_left : StepState → StepState
  then_left l = with_said (report_text at.counts) (with_told name now l)

  home : IsHome Old Mid
  home = record {
    files = record { file = refl; later = (files_same a.world).later };
    dice = home_same refl;
    tapes = record {
      out = λ key. refl;
      later = λ key. no_less (same_name name key) before count (a.world.tapes.faults key) more;
    };
    links = home_same refl;
    input = omega arith;
  }

  stays : (l : StepState) → IsStateOf l Old → IsStateOf (then_left l) Mid
  stays l s = record {
    file = s.file;
    tapes = told_so name told now a.world.tapes.told l.tapes s.tapes;
    links = s.links;
    input = s.input;
    dice = s.dice;
    asked = s.asked;
    heard = s.heard;
    said = refl;
  }

  kept : Does (reporting name at nothing) Old Mid (Ok tt)
  kept = record {
    home = home;
    ends = λ l s. reach (then_left l) (now, holds, (refl, refl)) (stays l s);
  }

  pub reported : {A : Type 0} {next : Steps A} {new : Environment} {result : Result A Stop}
      → Does next Mid new result → Does (reporting name at next) Old new result
  reported {next = next} d = goes_on (reporting name at nothing) (λ u. next) tt kept d
