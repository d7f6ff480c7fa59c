use Rattle.std.proofs.Common.{length, ◌≡◌, ℕ, ◌<◌, ◌/◌, ◌%◌, slice_index}
use Rattle.kr_aes.specs.Cipher.{column_sum}
use Rattle.kr_aes.proofs.state.mix.Given as goal

abbrev pub invariant-loop-i : goal.invariant-loop-i
invariant-loop-i l = (length l.block ≡ 16) × ((k : ℕ) → k < l.i → slice_index l.block k ≡ column_sum l.factors l.old (k % 4) (k / 4))
