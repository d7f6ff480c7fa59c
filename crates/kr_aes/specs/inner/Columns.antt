-- A state as the words of its columns, and the columns that a round makes.
use Rattle.std.specs.Prelude.{◌≡◌, ℕ, ◌+◌, ◌<◌, List, [], ◌∷◌, bit_xor, slice_index}
use Rattle.kr_aes.specs.Cipher.{column_sum, sbox, cell_state, word_byte}
use Rattle.kr_aes.specs.EquivalentInverse.{after_equivalent_rounds}
use Rattle.kr_aes.specs.InverseCipher.{inverse_sbox}

-- the block with these columns
abbrev pub block_of_columns : List ℕ → List ℕ
block_of_columns columns = cell_state (λ row column. word_byte (slice_index columns column) row)

-- the word has these bytes, each added to the key's
abbrev pub IsKeyed : (ℕ → ℕ) → ℕ → ℕ → Type 0
IsKeyed byte key word = (row : ℕ) → row < 4
    → word_byte word row ≡ bit_xor (byte row) (word_byte key row)

-- the S-boxes of one byte of each word, from the first row on
abbrev pub sbox_column : (ℕ → ℕ) → ℕ → ℕ → ℕ → ℕ → List ℕ
sbox_column box a b c d =
    box (word_byte a 0) ∷ box (word_byte b 1) ∷ box (word_byte c 2) ∷ box (word_byte d 3) ∷ []

-- what MixColumns makes of the S-boxes
abbrev pub forward_byte : ℕ → ℕ → ℕ → ℕ → ℕ → ℕ
forward_byte a b c d row = column_sum (2 ∷ 3 ∷ 1 ∷ 1 ∷ []) (sbox_column sbox a b c d) row 0

-- what InvMixColumns makes of the inverse S-boxes
abbrev pub inverse_byte : ℕ → ℕ → ℕ → ℕ → ℕ → ℕ
inverse_byte a b c d row =
    column_sum (0xe ∷ 0xb ∷ 0xd ∷ 0x9 ∷ []) (sbox_column inverse_sbox a b c d) row 0

-- from the columns after some rounds of the equivalent inverse cipher to those after so many more
abbrev pub DoesRounds : List ℕ → ℕ → ℕ → ℕ → List ℕ → List ℕ → Type 0
DoesRounds inverse last done more columns next = (block : List ℕ)
    → block_of_columns columns ≡ after_equivalent_rounds inverse last block done
    → block_of_columns next ≡ after_equivalent_rounds inverse last block (done + more)
