-- What was read stands at the front of the buffer, and none of it is LF.
use Rattle.std.proofs.Common.{length, ◌-◌}
use Rattle.kr_edge.proofs.Lines.{Filled}
use Rattle.kr_edge.proofs.exchange.read_line.Given as goal

abbrev pub invariant-loop-filled : goal.invariant-loop-filled
invariant-loop-filled g l =
    Filled (g.S.Source.left l.initial.source) (g.S.Source.left l.source) l.line l.filled
    (length l.initial.line) (g.S.Source.count l.initial.source) (g.S.Source.count l.source)

abbrev pub decreases-loop-filled : goal.decreases-loop-filled
decreases-loop-filled g l = length l.line - l.filled
