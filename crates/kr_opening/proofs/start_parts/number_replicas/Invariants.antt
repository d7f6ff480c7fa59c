use Rattle.kr_opening.proofs.Sharing.{AreNumbered}
use Rattle.kr_opening.proofs.start_parts.number_replicas.Given as goal

abbrev pub invariant-loop-replica : goal.invariant-loop-replica
invariant-loop-replica l = AreNumbered l.replicas l.current.items l.number l.replica-index
