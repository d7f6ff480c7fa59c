use Rattle.std.proofs.Common.{◌≡◌, ◌++◌}
use Rattle.kr_plan.specs.Plans.{reloads}
use Rattle.kr_plan.proofs.moves.push_reloads.Given as goal

abbrev pub invariant-loop-replica : goal.invariant-loop-replica
invariant-loop-replica l = l.moves.items ≡ l.initial.moves.items ++ reloads l.phase l.replica
