-- The cipher (FIPS 197, as updated in 2023, section 5.1) on one block of 16 bytes.
use Rattle.std.specs.Prelude.{◌≡◌, ℕ, zero, suc, ◌+◌, ◌-◌, ◌*◌, ◌%◌, ◌<◌, List, [], ◌∷◌, All, length, bit_xor, slice_index}
use Rattle.std.specs.Int.{w32, bit_at, to_be_bytes}
use Rattle.kr_aes.specs.declared.Rounds.{Rounds}
use Rattle.kr_aes.specs.declared.Rounds.TheVariants.{Ten, Twelve, Fourteen}
use Rattle.kr_aes.specs.Field.{product, inverse}

-- Nr (section 5)
abbrev pub round_count : Rounds → ℕ
round_count Ten = 10
round_count Twelve = 12
round_count Fourteen = 14

-- ---- the state (3.4)

-- 16 bytes, each below 256
pub record IsBlock (block : List ℕ) : Type 0 where
  pub size : length block ≡ 16
  pub bytes : All (λ byte. byte < 256) block

-- the cell in a row and a column of the state that a block fills column by column
abbrev pub cell : List ℕ → ℕ → ℕ → ℕ
cell state row column = slice_index state (row + 4 * column)

-- the state with these cells, by row and column
abbrev pub cell_state : (ℕ → ℕ → ℕ) → List ℕ
cell_state s =
    s 0 0 ∷ s 1 0 ∷ s 2 0 ∷ s 3 0 ∷
    s 0 1 ∷ s 1 1 ∷ s 2 1 ∷ s 3 1 ∷
    s 0 2 ∷ s 1 2 ∷ s 2 2 ∷ s 3 2 ∷
    s 0 3 ∷ s 1 3 ∷ s 2 3 ∷ s 3 3 ∷ []

-- ---- SubBytes (5.1.1)

-- the byte with these bits
abbrev pub byte_of : (ℕ → ℕ) → ℕ
byte_of bit =
    bit 0 + 2 * bit 1 + 4 * bit 2 + 8 * bit 3 + 16 * bit 4 + 32 * bit 5 + 64 * bit 6 + 128 * bit 7

-- the affine map, whose constant is 63 hex: bit i is the sum of five bits and of the constant's
abbrev pub affine : ℕ → ℕ
affine b = byte_of (λ i.
    (bit_at b i + bit_at b ((i + 4) % 8) + bit_at b ((i + 5) % 8) + bit_at b ((i + 6) % 8)
    + bit_at b ((i + 7) % 8) + bit_at 0x63 i) % 2)

-- the S-box
unfoldable pub sbox : ℕ → ℕ
sbox b = affine (inverse b)

unfoldable pub sub_bytes : List ℕ → List ℕ
sub_bytes state = cell_state (λ row column. sbox (cell state row column))

-- ---- ShiftRows (5.1.2): row r goes r cells to the left, in a ring

unfoldable pub shift_rows : List ℕ → List ℕ
shift_rows state = cell_state (λ row column. cell state row ((column + row) % 4))

-- ---- MixColumns (5.1.3)

-- the sum of a column's cells, from a row downwards in a ring, each times its factor
abbrev pub column_sum : List ℕ → List ℕ → ℕ → ℕ → ℕ
column_sum factors state row column =
    bit_xor (bit_xor (bit_xor
    (product (slice_index factors 0) (cell state row column))
    (product (slice_index factors 1) (cell state ((row + 1) % 4) column)))
    (product (slice_index factors 2) (cell state ((row + 2) % 4) column)))
    (product (slice_index factors 3) (cell state ((row + 3) % 4) column))

-- each column times the matrix with these factors (4.3)
unfoldable pub matrix_product : List ℕ → List ℕ → List ℕ
matrix_product factors state = cell_state (column_sum factors state)

abbrev pub mix_columns : List ℕ → List ℕ
mix_columns state = matrix_product (2 ∷ 3 ∷ 1 ∷ 1 ∷ []) state

-- ---- AddRoundKey (5.1.4)

-- byte r of a word, the highest first (3.5)
abbrev pub word_byte : ℕ → ℕ → ℕ
word_byte word r = slice_index (to_be_bytes w32 word) r

-- word 4 * round + column of the schedule is added to that column
unfoldable pub add_round_key : List ℕ → ℕ → List ℕ → List ℕ
add_round_key words round state = cell_state (λ row column.
    bit_xor (cell state row column) (word_byte (slice_index words (4 * round + column)) row))

-- ---- Cipher (5.1)

-- the state after the first AddRoundKey and n rounds of all four transformations
unfoldable pub after_rounds : List ℕ → List ℕ → ℕ → List ℕ
after_rounds words block zero = add_round_key words 0 block
after_rounds words block (suc n) =
    add_round_key words (suc n) (mix_columns (shift_rows (sub_bytes (after_rounds words block n))))

-- the block that the schedule's words make of a block: the last round has no MixColumns
unfoldable pub cipher : List ℕ → Rounds → List ℕ → List ℕ
cipher words rounds block =
    add_round_key words (round_count rounds)
    (shift_rows (sub_bytes (after_rounds words block (round_count rounds - 1))))

-- ---- a law for callers: a cipher of a block is a block

abbrev pub CipherGivesBlocks : Type 0
CipherGivesBlocks = (words : List ℕ) (rounds : Rounds) (block : List ℕ)
    → IsBlock (cipher words rounds block)
