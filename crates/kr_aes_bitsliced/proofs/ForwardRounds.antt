-- A round of the cipher on one of the sliced blocks.
use Rattle.std.proofs.Common.{◌≡◌, ℕ, suc, ◌+◌, ◌-◌, ◌<◌, ◌≤◌, ◌∙◌, List, ap, arith}
use Rattle.kr_aes.specs.Cipher.{add_round_key, after_rounds, mix_columns, sbox, shift_rows, sub_bytes}
use Rattle.kr_aes_bitsliced.specs.declared.planes.Planes.{Planes}
use Rattle.kr_aes_bitsliced.specs.inner.Planes.{sliced_block, sliced_byte}
use Rattle.kr_aes_bitsliced.proofs.SlicedBlocks.{sliced_boxed}

-- what a round makes of a block before its columns are mixed
abbrev pub substituted : List ℕ → List ℕ
substituted block = shift_rows (sub_bytes block)

-- planes that are shifted ones of S-boxes
pub sliced_substituted : (b : ℕ) (block : List ℕ) (planes boxed shifted : Planes)
    → sliced_block planes b ≡ block
    → ((p : ℕ) → p < 16 → sliced_byte boxed b p ≡ sbox (sliced_byte planes b p))
    → sliced_block shifted b ≡ shift_rows (sliced_block boxed b)
    → sliced_block shifted b ≡ substituted block
unfolding sub_bytes
sliced_substituted b block planes boxed shifted from is shift =
    shift ∙ ap shift_rows (sliced_boxed sbox planes boxed b is ∙ ap sub_bytes from)

-- one more round
pub rounds_more : (words : List ℕ) (round : ℕ) (block : List ℕ) → 1 ≤ round
    → add_round_key words round
    (mix_columns (substituted (after_rounds words block (round - 1))))
    ≡ after_rounds words block (round + 1 - 1)
unfolding after_rounds
rounds_more words round block some =
    let e : round ≡ suc (round - 1) = omega arith in
    let next : round + 1 - 1 ≡ suc (round - 1) = omega arith in
    rw next (ap (λ i. add_round_key words i
    (mix_columns (substituted (after_rounds words block (round - 1))))) e)
