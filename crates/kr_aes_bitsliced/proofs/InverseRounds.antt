-- A round of the inverse cipher on one of the sliced blocks.
use Rattle.std.proofs.Common.{◌≡◌, ℕ, suc, ◌+◌, ◌-◌, ◌<◌, ◌≤◌, ◌∙◌, List, ap, arith}
use Rattle.kr_aes.specs.Cipher.{add_round_key}
use Rattle.kr_aes.specs.InverseCipher.{after_inverse_rounds, inverse_mix_columns, inverse_sbox, inverse_shift_rows, inverse_sub_bytes}
use Rattle.kr_aes_bitsliced.specs.declared.planes.Planes.{Planes}
use Rattle.kr_aes_bitsliced.specs.inner.Planes.{sliced_block, sliced_byte}
use Rattle.kr_aes_bitsliced.proofs.SlicedBlocks.{sliced_boxed}

-- what a round makes of a block before its key is added
abbrev pub opened : List ℕ → List ℕ
opened block = inverse_sub_bytes (inverse_shift_rows block)

-- planes of bytes that are the inverse S-boxes of shifted ones
pub sliced_opened : (b : ℕ) (block : List ℕ) (planes shifted boxed : Planes)
    → sliced_block planes b ≡ block
    → sliced_block shifted b ≡ inverse_shift_rows (sliced_block planes b)
    → ((p : ℕ) → p < 16 → sliced_byte boxed b p ≡ inverse_sbox (sliced_byte shifted b p))
    → sliced_block boxed b ≡ opened block
unfolding inverse_sub_bytes
sliced_opened b block planes shifted boxed from shift is =
    sliced_boxed inverse_sbox shifted boxed b is
    ∙ ap inverse_sub_bytes (shift ∙ ap inverse_shift_rows from)

-- one more inverse round
pub inverse_rounds_more : (words : List ℕ) (last round : ℕ) (block : List ℕ) → 1 ≤ round
    → inverse_mix_columns (add_round_key words (last - round)
    (opened (after_inverse_rounds words last block (round - 1))))
    ≡ after_inverse_rounds words last block (round + 1 - 1)
unfolding after_inverse_rounds
inverse_rounds_more words last round block some =
    let e : round ≡ suc (round - 1) = omega arith in
    let next : round + 1 - 1 ≡ suc (round - 1) = omega arith in
    rw next (ap (λ i. inverse_mix_columns (add_round_key words (last - i)
    (opened (after_inverse_rounds words last block (round - 1))))) e)
