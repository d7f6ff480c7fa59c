-- `permitted_event`: the seat may ask for what its hand permits.
use Rattle.std.proofs.Common.{List, ap, length, ◌∙◌, arith}
use Rattle.std.specs.Prelude.{get_or}
use Rattle.test_rollout.specs.declared.hand.Hand.{Hand}
use Rattle.test_rollout.proofs.Hands.{seat_may}
use Rattle.test_rollout.proofs.table.Table.permitted_event.Goals as goal

pub returns : goal.returns
returns c =
    let hand = c.in-Some.hand.now in
    let found = c.in-Some.ensures.lookup.3 in
    let size = ap (λ (hands : List Hand). length hands) c.deref.ensures.value in
    seat_may c.args.self.now c.self.inside.core c.self.inside.hands.items c.args.seat hand
    c.is_full.result c.permitted_event.result c.self.view_is c.self.invariant
    (omega (arith, found.0, size))
    (found.1 hand ∙ ap (λ (hands : List Hand). get_or hands c.args.seat hand)
    c.deref.ensures.value)
    c.is_full.ensures c.if-is_full.false c.permitted_event.ensures
