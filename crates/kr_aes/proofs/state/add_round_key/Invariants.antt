use Rattle.std.proofs.Common.{length, ◌≡◌, ℕ, ◌<◌, ◌≤◌, ◌+◌, ◌*◌, ◌/◌, ◌%◌, slice_index, bit_xor}
use Rattle.kr_aes.specs.Cipher.{word_byte}
use Rattle.kr_aes.proofs.state.add_round_key.Given as goal

abbrev pub invariant-loop-i : goal.invariant-loop-i
invariant-loop-i l = record {
  size : length l.block ≡ 16;
  done : (k : ℕ) → k < l.i → slice_index l.block k ≡ bit_xor (slice_index l.fn.block k) (word_byte (slice_index l.words (4 * l.round + k / 4)) (k % 4));
  left : (k : ℕ) → l.i ≤ k → slice_index l.block k ≡ slice_index l.fn.block k;
}
