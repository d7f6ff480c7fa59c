-- MixColumns and InvMixColumns undo each other.
use Rattle.std.proofs.Common.{◌≡◌, ℕ, zero, suc, List, [], ◌∷◌, length, slice_index, refl, sym, ap, ◌∙◌, arith, ◌+◌, ◌*◌, ◌/◌, ◌%◌, ◌<◌}
use Rattle.kr_aes.specs.Field.{polynomial_product, remainder, product}
use Rattle.kr_aes.specs.Cipher.{IsBlock, cell, column_sum, mix_columns, matrix_product, cell_state}
use Rattle.kr_aes.specs.InverseCipher.{inverse_mix_columns}
use Rattle.kr_aes.proofs.Blocks.{IsBlock-cell_state, cell-lt, slice_index-cell_state}
use Rattle.kr_aes.proofs.Boxes.{place_of_cell, state_of_cells}
use Rattle.kr_aes.proofs.Sums.{Undoes, factored, factored-lt, sum4, undoes_by}

pub cell-cell_state : (s : ℕ → ℕ → ℕ) (row column : ℕ) → row < 4 → column < 4 → cell (cell_state s) row column ≡ s row column
cell-cell_state s row column hr hc =
    let low : (row + 4 * column) % 4 ≡ row = omega arith in
    let high : (row + 4 * column) / 4 ≡ column = omega arith in
    slice_index-cell_state s (row + 4 * column) (omega arith) ∙ (λ i. s (low i) (high i))

-- the factors
abbrev pub factors : List ℕ
factors = 2 ∷ 3 ∷ 1 ∷ 1 ∷ []

abbrev pub inverse_factors : List ℕ
inverse_factors = 14 ∷ 11 ∷ 13 ∷ 9 ∷ []

-- the sums with the factors, and with the inverse factors
abbrev pub mixed_sum : ℕ → ℕ → ℕ → ℕ → ℕ
mixed_sum x y z w = factored 2 3 1 1 x y z w

abbrev pub inverse_sum : ℕ → ℕ → ℕ → ℕ → ℕ
inverse_sum x y z w = factored 14 11 13 9 x y z w

unmixed_sum : Undoes 14 11 13 9 2 3 1 1
unfolding sum4 product polynomial_product remainder
unmixed_sum = undoes_by 14 11 13 9 2 3 1 1 refl refl refl refl

mixed_back : Undoes 2 3 1 1 14 11 13 9
unfolding sum4 product polynomial_product remainder
mixed_back = undoes_by 2 3 1 1 14 11 13 9 refl refl refl refl

mixed_sum-lt : (x y z w : ℕ) → x < 256 → y < 256 → z < 256 → w < 256 → mixed_sum x y z w < 256
unfolding product polynomial_product remainder
mixed_sum-lt = factored-lt 2 3 1 1 refl refl refl refl

pub inverse_sum-lt : (x y z w : ℕ) → x < 256 → y < 256 → z < 256 → w < 256 → inverse_sum x y z w < 256
unfolding product polynomial_product remainder
inverse_sum-lt = factored-lt 14 11 13 9 refl refl refl refl

-- ---- products by the matrix of four factors

cell-mixed : (fs state : List ℕ) (row column : ℕ) → row < 4 → column < 4 → cell (matrix_product fs state) row column ≡ column_sum fs state row column
unfolding matrix_product
cell-mixed fs state row column hr hc = cell-cell_state (column_sum fs state) row column hr hc

IsBlock-product : (f g h k : ℕ) → ((x y z w : ℕ) → x < 256 → y < 256 → z < 256 → w < 256 → factored f g h k x y z w < 256)
    → (state : List ℕ) → IsBlock state → IsBlock (matrix_product (f ∷ g ∷ h ∷ k ∷ []) state)
unfolding matrix_product sum4
IsBlock-product f g h k bytes state is =
    IsBlock-cell_state (column_sum (f ∷ g ∷ h ∷ k ∷ []) state) (λ row column. bytes
    (cell state row column) (cell state ((row + 1) % 4) column) (cell state ((row + 2) % 4) column) (cell state ((row + 3) % 4) column)
    (cell-lt state is _) (cell-lt state is _) (cell-lt state is _) (cell-lt state is _))

pub IsBlock-mix_columns : (state : List ℕ) → IsBlock state → IsBlock (mix_columns state)
IsBlock-mix_columns = IsBlock-product 2 3 1 1 mixed_sum-lt

pub IsBlock-inverse_mix_columns : (state : List ℕ) → IsBlock state → IsBlock (inverse_mix_columns state)
IsBlock-inverse_mix_columns = IsBlock-product 14 11 13 9 inverse_sum-lt

-- the sum at the first of four rows, of a state that holds their sums
undone_row : (p q r s f g h k : ℕ) → Undoes p q r s f g h k
    → (x y z w a b c d : ℕ) → x < 256 → y < 256 → z < 256 → w < 256
    → a ≡ factored f g h k x y z w → b ≡ factored f g h k y z w x → c ≡ factored f g h k z w x y → d ≡ factored f g h k w x y z
    → factored p q r s a b c d ≡ x
undone_row p q r s f g h k back x y z w a b c d hx hy hz hw ea eb ec ed = rw (ea, eb, ec, ed) (back x y z w hx hy hz hw)

undone_cell : (p q r s f g h k : ℕ) → Undoes p q r s f g h k
    → (state : List ℕ) → IsBlock state → (row column : ℕ) → row < 4 → column < 4
    → column_sum (p ∷ q ∷ r ∷ s ∷ []) (matrix_product (f ∷ g ∷ h ∷ k ∷ []) state) row column ≡ cell state row column
unfolding sum4
undone_cell p q r s f g h k back state is zero column hr hc =
    undone_row p q r s f g h k back (cell state 0 column) (cell state 1 column) (cell state 2 column) (cell state 3 column) _ _ _ _
    (cell-lt state is _) (cell-lt state is _) (cell-lt state is _) (cell-lt state is _)
    (cell-mixed _ state 0 column (omega arith) hc) (cell-mixed _ state 1 column (omega arith) hc) (cell-mixed _ state 2 column (omega arith) hc) (cell-mixed _ state 3 column (omega arith) hc)
undone_cell p q r s f g h k back state is (suc zero) column hr hc =
    undone_row p q r s f g h k back (cell state 1 column) (cell state 2 column) (cell state 3 column) (cell state 0 column) _ _ _ _
    (cell-lt state is _) (cell-lt state is _) (cell-lt state is _) (cell-lt state is _)
    (cell-mixed _ state 1 column (omega arith) hc) (cell-mixed _ state 2 column (omega arith) hc) (cell-mixed _ state 3 column (omega arith) hc) (cell-mixed _ state 0 column (omega arith) hc)
undone_cell p q r s f g h k back state is (suc (suc zero)) column hr hc =
    undone_row p q r s f g h k back (cell state 2 column) (cell state 3 column) (cell state 0 column) (cell state 1 column) _ _ _ _
    (cell-lt state is _) (cell-lt state is _) (cell-lt state is _) (cell-lt state is _)
    (cell-mixed _ state 2 column (omega arith) hc) (cell-mixed _ state 3 column (omega arith) hc) (cell-mixed _ state 0 column (omega arith) hc) (cell-mixed _ state 1 column (omega arith) hc)
undone_cell p q r s f g h k back state is (suc (suc (suc zero))) column hr hc =
    undone_row p q r s f g h k back (cell state 3 column) (cell state 0 column) (cell state 1 column) (cell state 2 column) _ _ _ _
    (cell-lt state is _) (cell-lt state is _) (cell-lt state is _) (cell-lt state is _)
    (cell-mixed _ state 3 column (omega arith) hc) (cell-mixed _ state 0 column (omega arith) hc) (cell-mixed _ state 1 column (omega arith) hc) (cell-mixed _ state 2 column (omega arith) hc)
undone_cell p q r s f g h k back state is (suc (suc (suc (suc row)))) column hr hc = absurd (omega arith)

undone_state : (fs state t : List ℕ) → length state ≡ 16 → ((k : ℕ) → k < 16 → slice_index state k ≡ column_sum fs t (k % 4) (k / 4)) → matrix_product fs t ≡ state
unfolding matrix_product
undone_state fs state t size h = sym (state_of_cells state (column_sum fs t) size h)

undone : (p q r s f g h k : ℕ) → Undoes p q r s f g h k → (state : List ℕ) → IsBlock state
    → matrix_product (p ∷ q ∷ r ∷ s ∷ []) (matrix_product (f ∷ g ∷ h ∷ k ∷ []) state) ≡ state
undone p q r s f g h k back state is =
    undone_state (p ∷ q ∷ r ∷ s ∷ []) state (matrix_product (f ∷ g ∷ h ∷ k ∷ []) state) is.size
    (λ i lt. ap (slice_index state) (place_of_cell i) ∙ sym (undone_cell p q r s f g h k back state is (i % 4) (i / 4) (omega arith) (omega arith)))

pub inverse_mix_columns-mix_columns : (state : List ℕ) → IsBlock state → inverse_mix_columns (mix_columns state) ≡ state
inverse_mix_columns-mix_columns = undone 14 11 13 9 2 3 1 1 unmixed_sum

pub mix_columns-inverse_mix_columns : (state : List ℕ) → IsBlock state → mix_columns (inverse_mix_columns state) ≡ state
mix_columns-inverse_mix_columns = undone 2 3 1 1 14 11 13 9 mixed_back
