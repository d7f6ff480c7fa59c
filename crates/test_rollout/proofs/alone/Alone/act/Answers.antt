-- `act`: the hand stays what its seat's own entries say.
use Rattle.std.proofs.Common.{◌∙◌}
use Rattle.test_rollout.specs.Hands.{hand_after}
use Rattle.test_rollout.proofs.Hands.{caller_acted, caller_stays}
use Rattle.test_rollout.proofs.alone.Alone.act.Goals as goal

pub invariant_of-self : goal.invariant_of-self
invariant_of-self c = caller_stays c.self.inside.solo c.act.new.self c.self.inside.hand
    c.in_err-answer.ensures.nothing c.self.invariant

pub invariant_of-self-2 : goal.invariant_of-self-2
invariant_of-self-2 c = caller_acted c.args.self.now c.self.inside.solo c.act.new.self
    c.args.event c.in_ok-answer.answer c.self.inside.hand c.take.new.self c.self.view_is c.requires
    c.in_ok-answer.ensures.acted
    (c.take.ensures
    ∙ (λ i. hand_after (c.event_effect-kind.ensures i) (c.answer_gain.ensures i) c.self.inside.hand))
    c.self.invariant
