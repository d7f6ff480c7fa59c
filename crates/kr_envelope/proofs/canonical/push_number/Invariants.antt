-- What was written and the rest of the number are the whole.
use Rattle.kr_envelope.proofs.Numbers.{Shortens}
use Rattle.kr_envelope.proofs.canonical.push_number.Given as goal

abbrev pub invariant-loop-rest : goal.invariant-loop-rest
invariant-loop-rest l = Shortens l.fn.out.items l.out.items l.n l.rest

abbrev pub decreases-loop-rest : goal.decreases-loop-rest
decreases-loop-rest l = l.rest
