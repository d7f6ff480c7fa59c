-- Where steps end without a value: what follows them ends there too.
use Rattle.std.proofs.Common.{refl}
use Rattle.kr_cmd_steps.specs.Environment.{Environment, StepsEndAt}
use Rattle.kr_cmd_steps.specs.Steps.{Call, StepState, Point, Steps, amid, and_then, awaits, refuses}
use Rattle.kr_cmd_messages.specs.declared.refusal.Refusal.{Refusal}
use Rattle.kr_cmd_steps.proofs.RunTo.{onward}

pub data Halt : Type 0 where
  at_call : Call → Halt
  lacks : Halt
  declines : Refusal → Halt

abbrev pub point_at : {A : Type 0} → Halt → Point A
point_at (at_call call) = awaits call
point_at lacks = amid
point_at (declines why) = refuses why

pub halts_on : {A B : Type 0} (first : Steps A) (others : A → Steps B) {left : StepState} {new : Environment}
    (h : Halt) → StepsEndAt first left new (point_at h)
    → StepsEndAt (and_then first others) left new (point_at h)
halts_on first others (at_call call) r = onward first others r r.end (refl, refl) r.stays
halts_on first others lacks r = onward first others r r.end (refl, refl) r.stays
halts_on first others (declines why) r = onward first others r r.end (refl, refl) r.stays
