-- `add_puts`: the lines so far, and the pieces that they took.
use Rattle.std.proofs.Common.{◌≡◌, ◌+◌, ◌*◌, ◌++◌, map}
use Rattle.std.specs.List.{range_with_len}
use Rattle.kr_workload.specs.Loads.{put_of}
use Rattle.kr_workload.proofs.script.add_puts.Given as goal

abbrev pub invariant-loop-number : goal.invariant-loop-number
invariant-loop-number l =
    (l.lines.0 ≡ l.initial.lines.0
    ++ map (put_of l.initial.pieces.0 l.size l.worker) (range_with_len 0 l.number))
    × (l.pieces ≡ (l.initial.pieces.0, 2 + l.worker * l.size + l.number))
