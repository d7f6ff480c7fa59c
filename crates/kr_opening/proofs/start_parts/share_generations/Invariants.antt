use Rattle.kr_opening.proofs.Sharing.{AreMade}
use Rattle.kr_opening.proofs.start_parts.share_generations.Given as goal

abbrev pub invariant-loop-replica : goal.invariant-loop-replica
invariant-loop-replica l = AreMade l.replicas l.generations.items l.replica
