-- What leaves the tapes does so whatever they are, also while one of them is out.
use Rattle.std.proofs.Common.{◌≡◌, ℕ, List, Option, Result, refl, sym, subst}
use Rattle.kr_config.specs.Kept.{ConfigEntry}
use Rattle.kr_kms.specs.Calls.{Link}
use Rattle.kr_kms.specs.Outside.{Outside, KeepsFiles, KeepsObjects}
use Rattle.kr_cmd_steps.specs.Environment.{Environment, with_world}
use Rattle.kr_cmd_steps.specs.ValueSteps.{bench_steps}
use Rattle.kr_cmd_steps.specs.Steps.{Steps}
use Rattle.kr_cmd_messages.specs.declared.command.Direction.{Direction}
use Rattle.kr_cmd_steps.specs.declared.programs.Program.{Program}
use Rattle.kr_cmd_messages.specs.declared.refusal.Outcome.{Outcome}
use Rattle.kr_cmd_messages.specs.declared.refusal.Stop.{Stop}
use Rattle.kr_cmd_steps.specs.inner.Lent.{Tapes, with_tapes}
use Rattle.kr_cmd_steps.specs.inner.Phases.{Does, DiceLoan, DiceReturn, LinkLoan, LinkReturn}

module _ (tapes : Tapes) {old new : Outside} where
  pub files_apart : KeepsFiles old new → KeepsFiles (with_tapes tapes old) (with_tapes tapes new)
  files_apart h = record { file = h.file; later = h.later }

  pub objects_apart : KeepsObjects old new
      → KeepsObjects (with_tapes tapes old) (with_tapes tapes new)
  objects_apart h = record { dice = h.dice; tapes = refl; links = h.links }

  pub loan_apart : {seat : ℕ} {left : Option (List ℕ)} {count : ℕ}
      → DiceLoan seat old new left count
      → DiceLoan seat (with_tapes tapes old) (with_tapes tapes new) left count
  loan_apart h = record {
    out = h.out;
    left_is = h.left_is;
    files = files_apart h.files;
    asked = h.asked;
    tapes = refl;
    links = h.links;
  }

  pub return_apart : {seat : ℕ} {left : Option (List ℕ)} {count : ℕ}
      → DiceReturn seat old new left count
      → DiceReturn seat (with_tapes tapes old) (with_tapes tapes new) left count
  return_apart h = record {
    home = h.home;
    left_is = h.left_is;
    file = h.file;
    faults = h.faults;
    asked = h.asked;
    tapes = refl;
    links = h.links;
  }

  pub link_apart : {seat : ℕ} {plugin program : List ℕ} {link : Link}
      → LinkLoan seat plugin program old new link
      → LinkLoan seat plugin program (with_tapes tapes old) (with_tapes tapes new) link
  link_apart h = record {
    out = h.out;
    link_is = h.link_is;
    files = files_apart h.files;
    asked = h.asked;
    tapes = refl;
    dice = h.dice;
  }

  pub link_back_apart : {seat : ℕ} {link : Link} → LinkReturn seat old new link
      → LinkReturn seat (with_tapes tapes old) (with_tapes tapes new) link
  link_back_apart h = record {
    home = h.home;
    status_is = h.status_is;
    file = h.file;
    faults = h.faults;
    asked = h.asked;
    tapes = refl;
    dice = h.dice;
  }

-- no tape is out
pub unlent : {A : Type 0} {next : Steps A} {old new : Outside} {result : Result A Stop}
    (a b : Environment) → new.tapes ≡ old.tapes
    → Does next (with_world (with_tapes old.tapes old) a) (with_world (with_tapes old.tapes new) b)
    result
    → Does next (with_world old a) (with_world new b) result
unlent {next = next} {old} {new} {result} a b same d =
    subst (λ t. Does next (with_world old a) (with_world (with_tapes t new) b) result) (sym same) d

-- what a bench does of equal parts is the same
pub bench_by : {programs others : List Program} (direction : Direction) (rows : List ConfigEntry)
    {resource path bytes r p b : List ℕ} {old new : Environment} {result : Result Outcome Stop}
    → others ≡ programs → r ≡ resource → p ≡ path → b ≡ bytes
    → Does (bench_steps others direction r p rows b) old new result
    → Does (bench_steps programs direction resource path rows bytes) old new result
bench_by {programs} {others} direction rows {resource} {path} {bytes} {r} {p} {b} {old} {new}
    {result} programs_are resource_is path_is bytes_are d =
    subst (λ x. Does (bench_steps x direction resource path rows bytes) old new result) programs_are
    (subst (λ x. Does (bench_steps others direction x path rows bytes) old new result) resource_is
    (subst (λ x. Does (bench_steps others direction r x rows bytes) old new result) path_is
    (subst (λ x. Does (bench_steps others direction r p rows x) old new result) bytes_are d)))
