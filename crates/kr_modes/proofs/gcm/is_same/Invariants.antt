use Rattle.std.proofs.Common.{◌≡◌, ◌<◌, ℕ, slice_index}
use Rattle.kr_modes.proofs.gcm.is_same.Given as goal

abbrev pub invariant-loop-i : goal.invariant-loop-i
invariant-loop-i l = record {
  same : l.difference ≡ 0 → (k : ℕ) → k < l.i → slice_index l.other k ≡ slice_index l.tag k;
  none : ((k : ℕ) → k < l.i → slice_index l.other k ≡ slice_index l.tag k) → l.difference ≡ 0;
}
