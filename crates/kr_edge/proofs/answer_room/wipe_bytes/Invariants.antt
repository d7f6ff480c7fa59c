-- The bytes before the index are zero.
use Rattle.std.proofs.Common.{◌≡◌, ℕ, ◌<◌, get_or}
use Rattle.kr_edge.proofs.answer_room.wipe_bytes.Given as goal

abbrev pub invariant-loop-byte : goal.invariant-loop-byte
invariant-loop-byte l = (k : ℕ) (d : ℕ) → k < l.byte-index → get_or l.bytes k d ≡ 0
