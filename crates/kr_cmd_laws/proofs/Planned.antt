-- What `plan` shows of two configurations is one thing.
use Rattle.std.proofs.Common.{◌≡◌, ℕ, List, [], Some, Result, Ok, Err, sym, ◌∙◌, ap}
use Rattle.kr_config.specs.Kept.{ConfigEntry}
use Rattle.kr_judge.specs.Verdicts.{first}
use Rattle.kr_plan.specs.Plans.{reasons}
use Rattle.kr_plan.specs.declared.refusal.PlanNo.{PlanNo}
use Rattle.kr_cmd_messages.specs.declared.command.Planning.{Planning}
use Rattle.kr_cmd_messages.specs.declared.refusal.Refusal.{Refusal}
use Rattle.kr_cmd_steps.specs.PlanLines.{ShowsPlan, plan_refusal}

no_reason : (those : List PlanNo) (cause : PlanNo) → those ≡ [] → first those ≡ Some cause → ⊥
no_reason those cause none some = absurd (let e = sym (ap first none) ∙ some in cc)

pub one_plan : (words : Planning) (from to : List ConfigEntry) (a b : Result (List ℕ) Refusal)
    → ShowsPlan words from to a → ShowsPlan words from to b → a ≡ b
one_plan words from to (Ok a) (Ok b) h k = ap (λ t. Ok t) (h.1 ∙ sym k.1)
one_plan words from to (Ok a) (Err why) h k =
    absurd (no_reason (reasons from to) k.0 h.0 k.1)
one_plan words from to (Err why) (Ok b) h k =
    absurd (no_reason (reasons from to) h.0 k.0 h.1)
one_plan words from to (Err v) (Err w) h k =
    let same : Some h.0 ≡ Some k.0 = sym h.1 ∙ k.1 in
    let cause : h.0 ≡ k.0 = cc in
    let why : Some v ≡ Some w = sym h.2 ∙ ap plan_refusal cause ∙ k.2 in
    ap (λ e. Err e) (let e : v ≡ w = cc in e)
