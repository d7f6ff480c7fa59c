use Rattle.std.proofs.Common.{◌≡◌, ◌+◌, drop}
use Rattle.kr_base.specs.Limits.{pairs_size}
use Rattle.kr_base.proofs.limits.within_limits.Given as goal

-- the room is what the pairs so far have left
abbrev pub invariant-loop-key : goal.invariant-loop-key
invariant-loop-key l = pairs_size l.pairs + l.room ≡ 32768 + pairs_size (drop l.key-index l.pairs)
