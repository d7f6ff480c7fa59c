use Rattle.std.proofs.Common.{◌≡◌, ℕ, ◌<◌, ◌≤◌, length, slice_index}
use Rattle.kr_aes.specs.EquivalentInverse.{inverse_mixed_word}
use Rattle.kr_aes.proofs.invert.Given as goal

abbrev pub invariant-loop-i : goal.invariant-loop-i
invariant-loop-i l = record {
  size : length l.inverse ≡ 60;
  mixed : (k : ℕ) → 4 ≤ k → k < l.i → slice_index l.inverse k ≡ inverse_mixed_word (slice_index l.words k);
  first : (k : ℕ) → k < 4 → slice_index l.inverse k ≡ slice_index l.words k;
  left : (k : ℕ) → l.i ≤ k → slice_index l.inverse k ≡ slice_index l.words k;
}
