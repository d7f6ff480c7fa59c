-- The annotations so far are written.
use Rattle.kr_envelope.proofs.Numbers.{Pushes}
use Rattle.kr_envelope.proofs.canonical.push_pairs.Given as goal

abbrev pub invariant-loop-key : goal.invariant-loop-key
invariant-loop-key l = Pushes l.fn.out.items l.out.items l.pairs l.key-index
