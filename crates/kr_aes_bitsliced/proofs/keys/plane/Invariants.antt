use Rattle.std.proofs.Common.{◌≡◌, ℕ, ◌<◌, ◌*◌, length, slice_index}
use Rattle.std.specs.Int.{bit_at}
use Rattle.kr_aes_bitsliced.proofs.KeyBytes.{key_byte}
use Rattle.kr_aes_bitsliced.proofs.keys.plane.Given as goal

abbrev pub invariant-loop-i : goal.invariant-loop-i
invariant-loop-i l = record {
  size : length l.bytes ≡ 16;
  done : (p : ℕ) → p < l.i
      → slice_index l.bytes p ≡ 255 * bit_at (key_byte l.words l.round p) l.bit;
}
