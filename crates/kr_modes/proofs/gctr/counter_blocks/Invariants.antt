use Rattle.kr_modes.proofs.Counters.{AreCounted}
use Rattle.kr_modes.proofs.gctr.counter_blocks.Given as goal

abbrev pub invariant-loop-i : goal.invariant-loop-i
invariant-loop-i l = AreCounted l.nonce l.n l.i l.blocks
