-- `start`: the hands hold nothing yet.
use Rattle.std.proofs.Common.{◌∙◌, map}
use Rattle.test_rollout.specs.Hands.{fresh}
use Rattle.test_rollout.proofs.Starting.{hands_begin}
use Rattle.test_rollout.proofs.table.Table.start.Goals as goal

pub invariant_of-result : goal.invariant_of-result
invariant_of-result c = hands_begin c.args.terms.replicas.0 c.args.terms.reloads.items
    c.in-Ok-start.core c.count-many.result c.in-Ok.hands.items c.in-Ok-start.ensures
    c.count-many.ensures
    (c.in-Ok.ensures ∙ (λ i. map (fresh c.count-many.result) (c.as_slice.ensures.value i)))
