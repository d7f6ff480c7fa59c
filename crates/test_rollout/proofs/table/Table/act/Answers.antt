-- `act`: each hand stays what its seat's own entries say.
use Rattle.std.proofs.Common.{◌∙◌}
use Rattle.test_rollout.specs.Hands.{hand_after}
use Rattle.test_rollout.proofs.Hands.{act_taken}
use Rattle.test_rollout.proofs.table.Table.act.Goals as goal

pub invariant_of-self : goal.invariant_of-self
invariant_of-self c =
    let hand = c.index_mut.result.now in
    act_taken c.args.self.now c.self.inside.core c.apply-answer.new.self c.args.seat c.args.event
    c.apply-answer.result c.self.inside.hands.items hand c.take.new.self c.self.view_is
    c.requires.may c.apply-answer.ensures.applied c.index_mut.ensures.value
    (c.take.ensures ∙ (λ i. hand_after (c.event_effect-kind.ensures i) (c.answer_gain.ensures i) hand))
    c.self.invariant
