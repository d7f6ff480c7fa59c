-- The next bytes stand behind those that were read.
use Rattle.std.proofs.Common.{arith}
use Rattle.kr_edge.proofs.Filling.{drawn_more}
use Rattle.kr_edge.proofs.real_world.fill_from.Goals as goal

pub loop-filled-preserved : goal.loop-filled-preserved
loop-filled-preserved g c = drawn_more _ c.read.new.into c.in_ok-n.n _ c.loop-filled.invariant
    c.in_ok-n.ensures.bytes.0 c.in_ok-n.ensures.bound.0 (omega arith) c.in_ok-n.ensures.cause.later
