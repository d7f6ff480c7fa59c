-- What plugins were asked and answered, put together.
use Rattle.std.proofs.Common.{◌≡◌, List, [], ◌++◌, Option, None, Some, refl, sym, ◌∙◌, ap, subst, append-nil, append_assoc}
use Rattle.std.specs.Prelude.{Result}
use Rattle.kr_kms.specs.Exchanges.{Exchange}
use Rattle.kr_cmd_steps.specs.Environment.{Environment, IsHome, IsStateOf, with_exchanges}
use Rattle.kr_cmd_steps.specs.Steps.{StepState, Steps, hearing}
use Rattle.kr_cmd_steps.specs.inner.Phases.{Does}
use Rattle.kr_cmd_messages.specs.declared.refusal.Stop.{Stop}
use Rattle.kr_cmd_steps.proofs.RunTo.{home_as, stays_as}

pub heard_none : (heard : Option (List Exchange)) → hearing [] heard ≡ heard
heard_none None = refl
heard_none (Some before) = ap (λ es. Some es) (append-nil before)

pub heard_more : (first others : List Exchange) (heard : Option (List Exchange))
    → hearing others (hearing first heard) ≡ hearing (first ++ others) heard
heard_more first others None = refl
heard_more first others (Some before) = ap (λ es. Some es) (append_assoc before first others)

pub around_none : (a : Environment) → with_exchanges [] a ≡ a
around_none a = λ i. record a { heard = heard_none a.heard i }

pub around_more : (first others : List Exchange) (a : Environment)
    → with_exchanges others (with_exchanges first a) ≡ with_exchanges (first ++ others) a
around_more first others a = λ i. record a { heard = heard_more first others a.heard i }

-- where nothing is told of what is asked, around is the same behind it
pub around_untold : (es : List Exchange) (a : Environment) → a.heard ≡ None → with_exchanges es a ≡ a
around_untold es a is = λ i. record a { heard = (ap (hearing es) is ∙ sym is) i }

pub stays_heard : {left : StepState} {a : Environment} (es : List Exchange) (heard : Option (List Exchange))
    → hearing es left.heard ≡ heard → IsStateOf left a
    → IsStateOf (record left { heard = heard }) (with_exchanges es a)
stays_heard es heard is s =
    stays_as s refl refl s.tapes s.asked (ap (hearing es) s.heard ∙ is) s.said

pub home_heard : {old new : Environment} (es : List Exchange) → IsHome old new
    → IsHome old (with_exchanges es new)
home_heard es h = home_as refl refl h

pub none_heard : {A : Type 0} {next : Steps A} {old : Environment} (new : Environment)
    {result : Result A Stop} → Does next old new result
    → Does next old (with_exchanges [] new) result
none_heard {next = next} {old} new {result} d =
    subst (λ a. Does next old a result) (sym (around_none new)) d

pub both_heard : {A : Type 0} {next : Steps A} {old : Environment} (first others : List Exchange)
    (new : Environment) {result : Result A Stop}
    → Does next old (with_exchanges others (with_exchanges first new)) result
    → Does next old (with_exchanges (first ++ others) new) result
both_heard {next = next} {old} first others new {result} d =
    subst (λ a. Does next old a result) (around_more first others new) d

-- where nothing is told of what is asked, steps did what they did where it was
pub unheard_does : {A : Type 0} {next : Steps A} {old : Environment} {result : Result A Stop}
    (es : List Exchange) (a : Environment) (with_parts : Environment → Environment) → a.heard ≡ None
    → Does next old (with_parts (with_exchanges es a)) result
    → Does next old (with_parts a) result
unheard_does {next = next} {old} {result} es a with_parts is d =
    subst (λ b. Does next old (with_parts b) result) (around_untold es a is) d
