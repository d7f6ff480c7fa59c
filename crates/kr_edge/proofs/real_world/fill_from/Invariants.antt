-- What was read stands at the front of the buffer.
use Rattle.std.proofs.Common.{length, ◌-◌}
use Rattle.kr_edge.proofs.Filling.{Drawn}
use Rattle.kr_edge.proofs.real_world.fill_from.Given as goal

abbrev pub invariant-loop-filled : goal.invariant-loop-filled
invariant-loop-filled g l =
    Drawn (g.S.Source.left l.initial.source) (g.S.Source.left l.source) l.into l.filled
    (length l.initial.into) (g.S.Source.count l.initial.source) (g.S.Source.count l.source)

abbrev pub decreases-loop-filled : goal.decreases-loop-filled
decreases-loop-filled g l = length l.into - l.filled
