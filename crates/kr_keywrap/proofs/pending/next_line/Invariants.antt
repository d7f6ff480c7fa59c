-- The bytes that were taken so far have no LF.
use Rattle.std.proofs.Common.{length, ◌-◌}
use Rattle.kr_keywrap.proofs.Lines.{Reading}
use Rattle.kr_keywrap.proofs.pending.next_line.Given as goal

abbrev pub invariant-reading : goal.invariant-reading
invariant-reading g l =
    Reading (g.S.Source.left l.initial.source) (g.S.Source.left l.source) l.initial.pending l.pending l.scanned (g.S.Source.count l.initial.source) (g.S.Source.count l.source)

abbrev pub decreases-reading : goal.decreases-reading
decreases-reading g l = 131073 - length l.pending
