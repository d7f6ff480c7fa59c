-- MixColumns as the code does it: twice the sum of a byte and of the byte below, the byte below,
-- and this sum two rows below.
use Rattle.std.proofs.Common.{◌≡◌, ℕ, ◌+◌, ◌%◌, ◌<◌, bit_xor, refl, sym, ◌∙◌, arith}
use lib.Bits.{xor_assoc}
use Rattle.kr_aes.specs.Field.{polynomial_product, product, remainder}
use Rattle.kr_aes.specs.Cipher.{column_sum, matrix_product, mix_columns}
use Rattle.kr_aes.proofs.Cases.{same_below}
use Rattle.kr_aes.proofs.Linear.{product-xor}
use Rattle.kr_aes.proofs.MixedColumns.{factors}
use Rattle.kr_aes_bitsliced.specs.declared.planes.Planes.{Planes}
use Rattle.kr_aes_bitsliced.specs.inner.Planes.{place_of, sliced_block, sliced_byte}
use Rattle.kr_aes_bitsliced.proofs.SlicedBlocks.{column_by_bytes, sliced_block-cell_state, sliced_byte-lt}

-- the four bytes of a column, from a row downwards, as the code mixes them
abbrev by_doubles : ℕ → ℕ → ℕ → ℕ → ℕ
by_doubles x y z w = bit_xor (bit_xor (product 2 (bit_xor x y)) y) (bit_xor z w)

product_three : (n : ℕ) → n < 256 → bit_xor (product 2 n) n ≡ product 3 n
unfolding product polynomial_product remainder
product_three = same_below 256 (λ n. bit_xor (product 2 n) n) (product 3) refl

product_one : (n : ℕ) → n < 256 → n ≡ product 1 n
unfolding product polynomial_product remainder
product_one = same_below 256 (λ n. n) (product 1) refl

pub doubles_sum : (x y z w : ℕ) → y < 256 → z < 256 → w < 256
    → by_doubles x y z w
    ≡ bit_xor (bit_xor (bit_xor (product 2 x) (product 3 y)) (product 1 z)) (product 1 w)
doubles_sum x y z w hy hz hw =
    (λ i. bit_xor (bit_xor (product-xor 2 x y i) y) (bit_xor z w))
    ∙ (λ i. bit_xor (xor_assoc (product 2 x) (product 2 y) y i) (bit_xor z w))
    ∙ sym (xor_assoc (bit_xor (product 2 x) (bit_xor (product 2 y) y)) z w)
    ∙ (λ i. bit_xor (bit_xor (bit_xor (product 2 x) (product_three y hy i)) (product_one z hz i))
    (product_one w hw i))

-- planes whose columns are mixed by the factors 2, 3, 1 and 1
pub mixed_columns_block : (planes outcome : Planes) (b : ℕ)
    → ((row column : ℕ) → row < 4 → column < 4 → sliced_byte outcome b (place_of row column)
    ≡ by_doubles (sliced_byte planes b (place_of row column))
    (sliced_byte planes b (place_of ((row + 1) % 4) column))
    (sliced_byte planes b (place_of ((row + 2) % 4) column))
    (sliced_byte planes b (place_of (((row + 2) % 4 + 1) % 4) column)))
    → sliced_block outcome b ≡ mix_columns (sliced_block planes b)
unfolding matrix_product
mixed_columns_block planes outcome b is =
    sliced_block-cell_state outcome b (column_sum factors (sliced_block planes b))
    (λ row column hr hc.
    let own = λ (row : ℕ). sliced_byte planes b (place_of row column) in
    let fourth : ((row + 2) % 4 + 1) % 4 ≡ (row + 3) % 4 = omega arith in
    let below : (row : ℕ) → own row < 256 = λ row. sliced_byte-lt planes b (place_of row column) in
    is row column hr hc
    ∙ (λ i. by_doubles (own row) (own ((row + 1) % 4)) (own ((row + 2) % 4)) (own (fourth i)))
    ∙ doubles_sum (own row) (own ((row + 1) % 4)) (own ((row + 2) % 4)) (own ((row + 3) % 4))
    (below ((row + 1) % 4)) (below ((row + 2) % 4)) (below ((row + 3) % 4))
    ∙ sym (column_by_bytes factors planes b row column hr hc))
