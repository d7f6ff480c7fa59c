-- What the loop of `next_line` keeps: no LF before the place.
use Rattle.std.proofs.Common.{◌≡◌, ◌==◌, All, take, false}
use Rattle.kr_script.proofs.lines.next_line.Given as goal

abbrev pub invariant-loop-at : goal.invariant-loop-at
invariant-loop-at l = All (λ byte. (byte == 10) ≡ false) (take l.at l.bytes)
