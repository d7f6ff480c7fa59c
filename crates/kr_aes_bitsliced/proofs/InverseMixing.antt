-- InvMixColumns as the code does it: 4 times the sum of a byte and of the byte two rows below is
-- added to it, and then MixColumns mixes it.
use Rattle.std.proofs.Common.{◌≡◌, ℕ, zero, suc, ◌+◌, ◌%◌, ◌<◌, bit_xor, refl, sym, ◌∙◌, arith, lit<}
use Rattle.std.specs.Int.Bits.{xor_zero_l, xor_zero_r}
use Rattle.kr_aes.specs.Cipher.{column_sum, matrix_product, mix_columns}
use Rattle.kr_aes.specs.Field.{polynomial_product, product, remainder}
use Rattle.kr_aes.specs.InverseCipher.{inverse_mix_columns}
use Rattle.kr_aes.proofs.Cases.{same_below}
use Rattle.kr_aes.proofs.Linear.{product-xor, xor_interchange}
use Rattle.kr_aes.proofs.MixedColumns.{factors, inverse_factors}
use Rattle.kr_aes.proofs.Sums.{sum4, sum4-xor}
use Rattle.kr_aes_bitsliced.specs.declared.planes.Planes.{Planes}
use Rattle.kr_aes_bitsliced.specs.inner.Planes.{place_of, sliced_block, sliced_byte}
use Rattle.kr_aes_bitsliced.proofs.SlicedBlocks.{column_by_bytes, same_cells, sliced_byte-lt}

-- a byte with 4 times its sum with the byte two rows below
abbrev pub prepared : ℕ → ℕ → ℕ
prepared x z = bit_xor x (product 2 (product 2 (bit_xor x z)))

-- the four bytes of a column, from a row downwards, with the factors 2, 3, 1 and 1
abbrev pub mixed : ℕ → ℕ → ℕ → ℕ → ℕ
mixed x y z w =
    bit_xor (bit_xor (bit_xor (product 2 x) (product 3 y)) (product 1 z)) (product 1 w)

-- both in turn
abbrev pub unmixed : ℕ → ℕ → ℕ → ℕ → ℕ
unmixed x y z w = mixed (prepared x z) (prepared y w) (prepared z x) (prepared w y)

-- ---- each is linear

prepared-xor : (x z a c : ℕ) → prepared (bit_xor x a) (bit_xor z c) ≡ bit_xor (prepared x z) (prepared a c)
prepared-xor x z a c =
    rw (xor_interchange x a z c, product-xor 2 (bit_xor x z) (bit_xor a c), product-xor 2 (product 2 (bit_xor x z)) (product 2 (bit_xor a c)))
    (xor_interchange x a (product 2 (product 2 (bit_xor x z))) (product 2 (product 2 (bit_xor a c))))

mixed-xor : (x y z w a b c d : ℕ) → mixed (bit_xor x a) (bit_xor y b) (bit_xor z c) (bit_xor w d) ≡ bit_xor (mixed x y z w) (mixed a b c d)
unfolding sum4
mixed-xor x y z w a b c d =
    rw (product-xor 2 x a, product-xor 3 y b, product-xor 1 z c, product-xor 1 w d)
    (sum4-xor (product 2 x) (product 3 y) (product 1 z) (product 1 w) (product 2 a) (product 3 b) (product 1 c) (product 1 d))

unmixed-xor : (x y z w a b c d : ℕ) → unmixed (bit_xor x a) (bit_xor y b) (bit_xor z c) (bit_xor w d) ≡ bit_xor (unmixed x y z w) (unmixed a b c d)
unmixed-xor x y z w a b c d =
    (λ i. mixed (prepared-xor x z a c i) (prepared-xor y w b d i) (prepared-xor z x c a i) (prepared-xor w y d b i))
    ∙ mixed-xor (prepared x z) (prepared y w) (prepared z x) (prepared w y) (prepared a c) (prepared b d) (prepared c a) (prepared d b)

-- ---- each byte alone, at each of the 256 bytes

first_alone : (n : ℕ) → n < 256 → unmixed n 0 0 0 ≡ product 14 n
unfolding product polynomial_product remainder
first_alone = same_below 256 (λ n. unmixed n 0 0 0) (product 14) refl

second_alone : (n : ℕ) → n < 256 → unmixed 0 n 0 0 ≡ product 11 n
unfolding product polynomial_product remainder
second_alone = same_below 256 (λ n. unmixed 0 n 0 0) (product 11) refl

third_alone : (n : ℕ) → n < 256 → unmixed 0 0 n 0 ≡ product 13 n
unfolding product polynomial_product remainder
third_alone = same_below 256 (λ n. unmixed 0 0 n 0) (product 13) refl

fourth_alone : (n : ℕ) → n < 256 → unmixed 0 0 0 n ≡ product 9 n
unfolding product polynomial_product remainder
fourth_alone = same_below 256 (λ n. unmixed 0 0 0 n) (product 9) refl

-- ---- the four bytes together

without_fourth : (x y z w : ℕ) → unmixed x y z w ≡ bit_xor (unmixed x y z 0) (unmixed 0 0 0 w)
without_fourth x y z w =
    let e : unmixed (bit_xor x 0) (bit_xor y 0) (bit_xor z 0) (bit_xor 0 w) ≡ unmixed x y z w = λ i. unmixed (xor_zero_r x i) (xor_zero_r y i) (xor_zero_r z i) (xor_zero_l w i) in
    sym e ∙ unmixed-xor x y z 0 0 0 0 w

without_third : (x y z : ℕ) → unmixed x y z 0 ≡ bit_xor (unmixed x y 0 0) (unmixed 0 0 z 0)
without_third x y z =
    let e : unmixed (bit_xor x 0) (bit_xor y 0) (bit_xor 0 z) (bit_xor 0 0) ≡ unmixed x y z 0 = λ i. unmixed (xor_zero_r x i) (xor_zero_r y i) (xor_zero_l z i) 0 in
    sym e ∙ unmixed-xor x y 0 0 0 0 z 0

without_second : (x y : ℕ) → unmixed x y 0 0 ≡ bit_xor (unmixed x 0 0 0) (unmixed 0 y 0 0)
without_second x y =
    let e : unmixed (bit_xor x 0) (bit_xor 0 y) (bit_xor 0 0) (bit_xor 0 0) ≡ unmixed x y 0 0 = λ i. unmixed (xor_zero_r x i) (xor_zero_l y i) 0 0 in
    sym e ∙ unmixed-xor x 0 0 0 0 y 0 0

pub unmixed_sum : (x y z w : ℕ) → x < 256 → y < 256 → z < 256 → w < 256
    → unmixed x y z w ≡ bit_xor (bit_xor (bit_xor (product 14 x) (product 11 y)) (product 13 z)) (product 9 w)
unmixed_sum x y z w hx hy hz hw =
    without_fourth x y z w
    ∙ (λ i. bit_xor (without_third x y z i) (fourth_alone w hw i))
    ∙ (λ i. bit_xor (bit_xor (without_second x y i) (third_alone z hz i)) (product 9 w))
    ∙ (λ i. bit_xor (bit_xor (bit_xor (first_alone x hx i) (second_alone y hy i)) (product 13 z)) (product 9 w))

-- ---- a column, by rows

-- the rows r, r + 1, r + 2 and r + 3 of a column t that was made of a column s by `prepared`
pub mixed_rows : (s t : ℕ → ℕ) → ((row : ℕ) → row < 4 → t row ≡ prepared (s row) (s ((row + 2) % 4)))
    → (row : ℕ) → row < 4 → mixed (t row) (t ((row + 1) % 4)) (t ((row + 2) % 4)) (t ((row + 3) % 4)) ≡ unmixed (s row) (s ((row + 1) % 4)) (s ((row + 2) % 4)) (s ((row + 3) % 4))
mixed_rows s t h zero lt = λ i. mixed (h 0 (lit< tt) i) (h 1 (lit< tt) i) (h 2 (lit< tt) i) (h 3 (lit< tt) i)
mixed_rows s t h (suc zero) lt = λ i. mixed (h 1 (lit< tt) i) (h 2 (lit< tt) i) (h 3 (lit< tt) i) (h 0 (lit< tt) i)
mixed_rows s t h (suc (suc zero)) lt = λ i. mixed (h 2 (lit< tt) i) (h 3 (lit< tt) i) (h 0 (lit< tt) i) (h 1 (lit< tt) i)
mixed_rows s t h (suc (suc (suc zero))) lt = λ i. mixed (h 3 (lit< tt) i) (h 0 (lit< tt) i) (h 1 (lit< tt) i) (h 2 (lit< tt) i)
mixed_rows s t h (suc (suc (suc (suc row)))) lt = absurd (omega arith)

-- ---- a block

-- planes that were made of others by `prepared`
pub unmixed_block : (planes ready : Planes) (b : ℕ)
    → ((row column : ℕ) → row < 4 → column < 4 → sliced_byte ready b (place_of row column) ≡ prepared (sliced_byte planes b (place_of row column)) (sliced_byte planes b (place_of ((row + 2) % 4) column)))
    → mix_columns (sliced_block ready b) ≡ inverse_mix_columns (sliced_block planes b)
unfolding matrix_product
unmixed_block planes ready b is =
    same_cells (column_sum factors (sliced_block ready b)) (column_sum inverse_factors (sliced_block planes b)) (λ row column hr hc.
    let own = λ (row : ℕ). sliced_byte planes b (place_of row column) in
    let below : (row : ℕ) → own row < 256 = λ row. sliced_byte-lt planes b (place_of row column) in
    column_by_bytes factors ready b row column hr hc
    ∙ mixed_rows own (λ row. sliced_byte ready b (place_of row column)) (λ row hr. is row column hr hc) row hr
    ∙ unmixed_sum (own row) (own ((row + 1) % 4)) (own ((row + 2) % 4)) (own ((row + 3) % 4)) (below row) (below ((row + 1) % 4)) (below ((row + 2) % 4)) (below ((row + 3) % 4))
    ∙ sym (column_by_bytes inverse_factors planes b row column hr hc))
