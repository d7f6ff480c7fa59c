use Rattle.test_rollout.proofs.Starting.{AreFresh}
use Rattle.test_rollout.proofs.table.fresh_hands.Given as goal

abbrev pub invariant-loop-left : goal.invariant-loop-left
invariant-loop-left l = AreFresh l.replicas l.reloads l.hands.items l.left-index
