use Rattle.std.proofs.Common.{length, ◌≡◌, ℕ, ◌<◌, ◌≤◌, slice_index}
use Rattle.kr_aes.specs.InverseCipher.{inverse_sbox}
use Rattle.kr_aes.proofs.inverse_state.inverse_sub_bytes.Given as goal

abbrev pub invariant-loop-byte : goal.invariant-loop-byte
invariant-loop-byte l = record {
  size : length l.block ≡ 16;
  done : (k : ℕ) → k < l.byte-index → slice_index l.block k ≡ inverse_sbox (slice_index l.fn.block k);
  left : (k : ℕ) → l.byte-index ≤ k → slice_index l.block k ≡ slice_index l.fn.block k;
}
