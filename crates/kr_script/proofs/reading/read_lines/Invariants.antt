-- What the loop of `read_lines` keeps, and what it goes down.
use Rattle.std.proofs.Common.{◌≡◌, ◌+◌, ◌≤◌, length}
use Rattle.std.specs.Str.Lines.{lines}
use Rattle.kr_script.specs.inner.Drafts.{draft_of, start}
use Rattle.kr_script.specs.inner.Reading.{answer}
use Rattle.kr_script.proofs.reading.read_lines.Given as goal

abbrev pub invariant-loop-line : goal.invariant-loop-line
invariant-loop-line l =
    (answer l.number (draft_of l.draft) (lines l.rest) ≡ answer 1 start (lines l.bytes))
    × (l.number + length l.rest ≤ length l.bytes + 1)

abbrev pub decreases-loop-line : goal.decreases-loop-line
decreases-loop-line l = length l.rest
