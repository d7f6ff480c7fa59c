-- The inverse cipher (FIPS 197, as updated in 2023, section 5.3) on one block of 16 bytes.
use Rattle.std.specs.Prelude.{◌≡◌, ℕ, zero, suc, ◌+◌, ◌-◌, ◌%◌, ◌==◌, List, [], ◌∷◌, find, unwrap_or}
use Rattle.std.specs.List.{range_with_len}
use Rattle.kr_aes.specs.declared.Rounds.{Rounds}
use Rattle.kr_aes.specs.Cipher.{IsBlock, add_round_key, cell, cipher, matrix_product, round_count, sbox, cell_state}

-- ---- InvShiftRows (5.3.1): row r goes r cells to the right, in a ring

unfoldable pub inverse_shift_rows : List ℕ → List ℕ
inverse_shift_rows state = cell_state (λ row column. cell state row ((column + 4 - row) % 4))

-- ---- InvSubBytes (5.3.2)

-- the inverse S-box: the byte whose S-box this is
unfoldable pub inverse_sbox : ℕ → ℕ
inverse_sbox b = unwrap_or (find (λ c. sbox c == b) (range_with_len 0 256)) 0

unfoldable pub inverse_sub_bytes : List ℕ → List ℕ
inverse_sub_bytes state = cell_state (λ row column. inverse_sbox (cell state row column))

-- ---- InvMixColumns (5.3.3)

abbrev pub inverse_mix_columns : List ℕ → List ℕ
inverse_mix_columns state = matrix_product (0xe ∷ 0xb ∷ 0xd ∷ 0x9 ∷ []) state

-- ---- InvCipher (5.3)

-- the state after the last key's addition and n rounds with InvMixColumns, which take the keys
-- downwards
unfoldable pub after_inverse_rounds : List ℕ → ℕ → List ℕ → ℕ → List ℕ
after_inverse_rounds words last block zero = add_round_key words last block
after_inverse_rounds words last block (suc n) =
    inverse_mix_columns (add_round_key words (last - suc n)
    (inverse_sub_bytes (inverse_shift_rows (after_inverse_rounds words last block n))))

-- the block that the schedule's words make of a cipher's block: the last round has no InvMixColumns
unfoldable pub inverse_cipher : List ℕ → Rounds → List ℕ → List ℕ
inverse_cipher words rounds block =
    add_round_key words 0 (inverse_sub_bytes (inverse_shift_rows
    (after_inverse_rounds words (round_count rounds) block (round_count rounds - 1))))

-- ---- laws for callers

abbrev pub InverseUndoesCipher : Type 0
InverseUndoesCipher = (words : List ℕ) (rounds : Rounds) (block : List ℕ) → IsBlock block
    → inverse_cipher words rounds (cipher words rounds block) ≡ block

abbrev pub CipherUndoesInverse : Type 0
CipherUndoesInverse = (words : List ℕ) (rounds : Rounds) (block : List ℕ) → IsBlock block
    → cipher words rounds (inverse_cipher words rounds block) ≡ block

abbrev pub InverseGivesBlocks : Type 0
InverseGivesBlocks = (words : List ℕ) (rounds : Rounds) (block : List ℕ)
    → IsBlock (inverse_cipher words rounds block)
