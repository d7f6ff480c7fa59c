-- How a verdict ends the steps of `judge`, and that there is one alone.
use Rattle.std.proofs.Common.{ℕ, List, Option, Result, Ok, Err, refl, sym, subst, inl, inr}
use Rattle.kr_config.specs.Kept.{ConfigEntry}
use Rattle.kr_judge.specs.declared.verdict.Verdict.{Verdict}
use Rattle.kr_store.specs.declared.rows.LogRow.{LogRow}
use Rattle.kr_cmd_steps.specs.Environment.{Environment, IsStateOf, Ends}
use Rattle.kr_cmd_steps.specs.StoreSteps.{judgement_on, telling}
use Rattle.kr_cmd_steps.specs.Steps.{StepState}
use Rattle.kr_cmd_store.specs.inner.Judging.{Judges, IsOutcome}
use Rattle.kr_cmd_steps.specs.inner.Phases.{Does}
use Rattle.kr_cmd_messages.specs.declared.refusal.Outcome.{Outcome}
use Rattle.kr_cmd_messages.specs.declared.refusal.Stop.{Stop}
use Rattle.kr_cmd_messages.specs.declared.refusal.Stop.TheVariants.{Words, Refused, Fault, NoMemory}
use Rattle.kr_cmd_steps.proofs.RunTo.{reach, home_refl}

-- ---- verdicts

module _ (stored : List LogRow) (replicas : List (Option (List ConfigEntry))) (replica : ℕ)
    (rows : List ConfigEntry) (a : Environment) where
  judges_at : {left : StepState} (result : Result Verdict Stop)
      → Judges stored replicas replica rows result → IsStateOf left a
      → Ends (judgement_on stored replicas replica rows) left a a result
  judges_at {left} (Ok verdict) is s = reach left (inr (Ok verdict, is, (refl, refl))) s
  judges_at (Err (Words why)) is s = is
  judges_at {left} (Err (Refused why)) is s = reach left (inr (Err why, is, (refl, refl))) s
  judges_at (Err (Fault object count)) is s = absurd is
  judges_at {left} (Err NoMemory) is s = inr (reach left (inl (refl, refl)) s)

  pub judges : (result : Result Verdict Stop) → Judges stored replicas replica rows result
      → Does (judgement_on stored replicas replica rows) a a result
  judges result is = record { home = home_refl a; ends = λ left s. judges_at result is s }

tells_at : (verdict : Verdict) {left : StepState} {a : Environment} (result : Result Outcome Stop)
    → IsOutcome verdict result → IsStateOf left a → Ends (telling verdict) left a a result
tells_at verdict {left} {a} (Ok made) is s =
    subst (λ m. Ends (telling verdict) left a a (Ok m)) (sym is)
    (reach left (inr (tt, tt, (refl, refl))) s)
tells_at verdict (Err (Words why)) is s = is
tells_at verdict (Err (Refused why)) is s = absurd is
tells_at verdict (Err (Fault object count)) is s = absurd is
tells_at verdict {left} (Err NoMemory) is s = inr (reach left (inl (refl, refl)) s)

pub tells_verdict : (verdict : Verdict) (a : Environment) (result : Result Outcome Stop)
    → IsOutcome verdict result → Does (telling verdict) a a result
tells_verdict verdict a result is =
    record { home = home_refl a; ends = λ left s. tells_at verdict result is s }
