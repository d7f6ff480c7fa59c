-- What is kept of the first two rounds of blocks with the same first 15 bytes.
use Rattle.std.specs.Prelude.{◌≡◌, ℕ, List, [], ◌∷◌, bit_xor, get_or, slice_index, take}
use Rattle.kr_aes.specs.declared.tables.TheConstants.{FORWARD}
use Rattle.kr_aes.specs.Cipher.{IsBlock, after_rounds, word_byte}
use Rattle.kr_aes.specs.inner.Columns.{block_of_columns}

-- what a round's table gives a column for a byte of a row
abbrev pub forward_word : ℕ → ℕ → ℕ
forward_word row byte = slice_index (get_or FORWARD row []) byte

-- the columns behind the second round of the block with this last byte, from what is kept
abbrev pub begun_columns : List ℕ → ℕ → List ℕ → ℕ → List ℕ
begun_columns words head columns last =
    let first = bit_xor head (forward_word 3 (bit_xor last (word_byte (slice_index words 3) 3))) in
    bit_xor (slice_index columns 0) (forward_word 0 (word_byte first 0)) ∷
    bit_xor (slice_index columns 1) (forward_word 3 (word_byte first 3)) ∷
    bit_xor (slice_index columns 2) (forward_word 2 (word_byte first 2)) ∷
    bit_xor (slice_index columns 3) (forward_word 1 (word_byte first 1)) ∷ []

-- these are the columns of each block that has the first 15 bytes of this one
pub record IsBegun (words block : List ℕ) (head : ℕ) (columns : List ℕ) : Type 0 where
  pub whole : IsBlock block
  pub begins : (other : List ℕ) → IsBlock other → take 15 other ≡ take 15 block
      → block_of_columns (begun_columns words head columns (slice_index other 15))
      ≡ after_rounds words other 2
