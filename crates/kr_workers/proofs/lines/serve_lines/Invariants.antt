-- So many lines were done, and there is room for the replies of the others.
use Rattle.std.proofs.Common.{◌≡◌, ◌≤◌, ◌+◌, length}
use Rattle.kr_workers.specs.inner.Going.{IsGoing}
use Rattle.kr_workers.proofs.lines.serve_lines.Given as goal

abbrev pub invariant-loop-line : goal.invariant-loop-line
invariant-loop-line g l =
    IsGoing g.L.Kms.link g.L.Kms.step g.D.Dice.left g.D.Dice.count l.files l.replica l.lines
    l.line-index (g.A.Acts.caller l.initial.acts) l.initial.bench l.told.0
    (g.A.Acts.caller l.acts) l.bench
    × (length l.lines ≤ l.told.1 + l.line-index)
    × (g.A.Acts.place l.acts ≡ g.A.Acts.place l.initial.acts)
