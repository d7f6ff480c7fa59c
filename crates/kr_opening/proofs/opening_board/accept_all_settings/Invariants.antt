use Rattle.kr_opening.proofs.Taking.{AreTaken}
use Rattle.kr_opening.proofs.opening_board.accept_all_settings.Given as goal
use Rattle.kr_opening.specs.Replicas.{rows_in}

abbrev pub invariant-loop-replica : goal.invariant-loop-replica
invariant-loop-replica l = AreTaken (rows_in l.replicas) l.initial.board l.board l.replica
