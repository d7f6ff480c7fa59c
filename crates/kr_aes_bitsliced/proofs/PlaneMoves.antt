-- Planes whose bytes are those of other planes at other places.
use Rattle.std.proofs.Common.{◌≡◌, ℕ, ◌+◌, ◌*◌, ◌-◌, ◌%◌, ◌<◌, List, ◌++◌, length, slice_index, ap, ◌∙◌, arith}
use Rattle.std.specs.Int.{bit_at}
use Rattle.std.proofs.lemmas.List.{get_or_append_left}
use Rattle.kr_aes.specs.Cipher.{cell_state}
use Rattle.kr_aes.proofs.MixedColumns.{cell-cell_state}
use Rattle.kr_aes_bitsliced.specs.declared.planes.Planes.{Planes}
use Rattle.kr_aes_bitsliced.specs.inner.Planes.{HasMoved, place_of, plane, sliced_byte}
use Rattle.kr_aes_bitsliced.proofs.ByteBits.{same_bits}

-- where the cell in a row and a column comes from, when each row goes up by one or by two, and when
-- row r goes r bytes to the right or to the left
abbrev pub one_below : ℕ → ℕ → ℕ
one_below row column = place_of ((row + 1) % 4) column

abbrev pub two_below : ℕ → ℕ → ℕ
two_below row column = place_of ((row + 2) % 4) column

abbrev pub on_the_left : ℕ → ℕ → ℕ
on_the_left row column = place_of row ((column + 4 - row) % 4)

abbrev pub on_the_right : ℕ → ℕ → ℕ
on_the_right row column = place_of row ((column + row) % 4)

-- cells that lie by rows
abbrev block_rows : (ℕ → ℕ → ℕ) → List ℕ
block_rows s = cell_state (λ column row. s row column)

at-block_rows : (s : ℕ → ℕ → ℕ) (row column : ℕ) → row < 4 → column < 4
    → slice_index (block_rows s) (place_of row column) ≡ s row column
at-block_rows s row column hr hc =
    let turned : place_of row column ≡ column + 4 * row = omega arith in
    ap (slice_index (block_rows s)) turned ∙ cell-cell_state (λ column row. s row column) column row hc hr

-- the cells of a swizzle, which picks its bytes from two copies of the plane
abbrev picked : (ℕ → ℕ → ℕ) → List ℕ → List ℕ
picked from plane = block_rows (λ row column. slice_index (plane ++ plane) (from row column))

picked_cell : (from : ℕ → ℕ → ℕ) (plane : List ℕ) (row column : ℕ) → row < 4 → column < 4 → from row column < length plane → slice_index (picked from plane) (place_of row column) ≡ slice_index plane (from row column)
picked_cell from plane row column hr hc within =
    at-block_rows (λ row column. slice_index (plane ++ plane) (from row column)) row column hr hc
    ∙ get_or_append_left plane plane 0 (from row column) within

pub one_below_cell : (plane : List ℕ) → length plane ≡ 16 → (row column : ℕ) → row < 4 → column < 4 → slice_index (picked one_below plane) (place_of row column) ≡ slice_index plane (place_of ((row + 1) % 4) column)
one_below_cell plane size row column hr hc = picked_cell one_below plane row column hr hc (omega arith)

pub two_below_cell : (plane : List ℕ) → length plane ≡ 16 → (row column : ℕ) → row < 4 → column < 4 → slice_index (picked two_below plane) (place_of row column) ≡ slice_index plane (place_of ((row + 2) % 4) column)
two_below_cell plane size row column hr hc = picked_cell two_below plane row column hr hc (omega arith)

pub on_the_left_cell : (plane : List ℕ) → length plane ≡ 16 → (row column : ℕ) → row < 4 → column < 4 → slice_index (picked on_the_left plane) (place_of row column) ≡ slice_index plane (place_of row ((column + 4 - row) % 4))
on_the_left_cell plane size row column hr hc = picked_cell on_the_left plane row column hr hc (omega arith)

pub on_the_right_cell : (plane : List ℕ) → length plane ≡ 16 → (row column : ℕ) → row < 4 → column < 4 → slice_index (picked on_the_right plane) (place_of row column) ≡ slice_index plane (place_of row ((column + row) % 4))
on_the_right_cell plane size row column hr hc = picked_cell on_the_right plane row column hr hc (omega arith)

-- ---- bytes of which each plane has gone

pub moved_bytes : (from : ℕ → ℕ → ℕ) (planes moved : Planes) → ((k : ℕ) → k < 8 → HasMoved from (plane planes k) (plane moved k))
    → (b row column : ℕ) → row < 4 → column < 4 → sliced_byte moved b (place_of row column) ≡ sliced_byte planes b (from row column)
unfolding sliced_byte
moved_bytes from planes moved moves b row column hr hc =
    same_bits (λ k. bit_at (slice_index (plane moved k) (place_of row column)) b) (λ k. bit_at (slice_index (plane planes k) (from row column)) b)
    (λ k lt. ap (λ (x : ℕ). bit_at x b) (moves k lt row column hr hc))
