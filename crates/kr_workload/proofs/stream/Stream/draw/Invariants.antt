-- `draw`: what was given so far stands in the buffer, and the rest is left.
use Rattle.std.proofs.Common.{◌≡◌, ◌++◌, length, take}
use Rattle.kr_workload.proofs.stream.Stream.draw.Given as goal

abbrev pub invariant-loop-byte : goal.invariant-loop-byte
invariant-loop-byte l = (length l.into ≡ length l.fn.into)
    × (l.fn.self ≡ take l.byte-index l.into ++ l.self)
