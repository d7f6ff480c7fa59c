-- A block of planes cell by cell.
use Rattle.std.proofs.Common.{◌≡◌, ℕ, ◌+◌, ◌%◌, ◌<◌, List, bit_xor, slice_index, ap, sym, ◌∙◌, arith, lit<}
use Rattle.std.specs.Int.{bit_at}
use Rattle.std.proofs.lemmas.Nat.Bits.{bit_at-lt}
use Rattle.kr_aes.specs.Field.{product}
use Rattle.kr_aes.specs.Cipher.{cell, column_sum, cell_state}
use Rattle.kr_aes.proofs.MixedColumns.{cell-cell_state}
use Rattle.kr_aes.proofs.Rows.{same16}
use Rattle.kr_aes_bitsliced.specs.declared.planes.Planes.{Planes}
use Rattle.kr_aes_bitsliced.specs.inner.Planes.{place_of, plane, sliced_block, sliced_byte}
use Rattle.kr_aes_bitsliced.proofs.ByteBits.{byte_of-lt}

pub same_cells : (s t : ℕ → ℕ → ℕ) → ((row column : ℕ) → row < 4 → column < 4 → s row column ≡ t row column) → cell_state s ≡ cell_state t
same_cells s t h =
    same16
    (h 0 0 (lit< tt) (lit< tt)) (h 1 0 (lit< tt) (lit< tt)) (h 2 0 (lit< tt) (lit< tt)) (h 3 0 (lit< tt) (lit< tt))
    (h 0 1 (lit< tt) (lit< tt)) (h 1 1 (lit< tt) (lit< tt)) (h 2 1 (lit< tt) (lit< tt)) (h 3 1 (lit< tt) (lit< tt))
    (h 0 2 (lit< tt) (lit< tt)) (h 1 2 (lit< tt) (lit< tt)) (h 2 2 (lit< tt) (lit< tt)) (h 3 2 (lit< tt) (lit< tt))
    (h 0 3 (lit< tt) (lit< tt)) (h 1 3 (lit< tt) (lit< tt)) (h 2 3 (lit< tt) (lit< tt)) (h 3 3 (lit< tt) (lit< tt))

pub sliced_byte-lt : (planes : Planes) (b p : ℕ) → sliced_byte planes b p < 256
unfolding sliced_byte
sliced_byte-lt planes b p =
    byte_of-lt (λ k. bit_at (slice_index (plane planes k) p) b) (λ k. bit_at-lt (slice_index (plane planes k) p) b)

pub cell-sliced_block : (planes : Planes) (b row column : ℕ) → row < 4 → column < 4 → cell (sliced_block planes b) row column ≡ sliced_byte planes b (place_of row column)
unfolding sliced_block
cell-sliced_block planes b row column hr hc = cell-cell_state (λ row column. sliced_byte planes b (place_of row column)) row column hr hc

-- a block of planes with these cells
pub sliced_block-cell_state : (planes : Planes) (b : ℕ) (s : ℕ → ℕ → ℕ) → ((row column : ℕ) → row < 4 → column < 4 → sliced_byte planes b (place_of row column) ≡ s row column) → sliced_block planes b ≡ cell_state s
unfolding sliced_block
sliced_block-cell_state planes b s h = same_cells (λ row column. sliced_byte planes b (place_of row column)) s h

-- planes whose bytes are each made of one byte
pub sliced_boxed : (box : ℕ → ℕ) (planes boxed : Planes) (b : ℕ)
    → ((p : ℕ) → p < 16 → sliced_byte boxed b p ≡ box (sliced_byte planes b p))
    → sliced_block boxed b
    ≡ cell_state (λ row column. box (cell (sliced_block planes b) row column))
sliced_boxed box planes boxed b is =
    sliced_block-cell_state boxed b (λ row column. box (cell (sliced_block planes b) row column))
    (λ row column hr hc.
    is (place_of row column) (omega arith)
    ∙ ap box (sym (cell-sliced_block planes b row column hr hc)))

-- planes whose rows have turned, each by the column that a cell comes from
pub sliced_turned : (from : ℕ → ℕ → ℕ) (planes turned : Planes)
    → ((row column : ℕ) → from row column < 4) → (b : ℕ)
    → ((row column : ℕ) → row < 4 → column < 4
    → sliced_byte turned b (place_of row column) ≡ sliced_byte planes b (place_of row (from row column)))
    → sliced_block turned b
    ≡ cell_state (λ row column. cell (sliced_block planes b) row (from row column))
sliced_turned from planes turned within b moved =
    sliced_block-cell_state turned b
    (λ row column. cell (sliced_block planes b) row (from row column))
    (λ row column hr hc.
    moved row column hr hc
    ∙ sym (cell-sliced_block planes b row (from row column) hr (within row column)))

-- the sum of a column's cells with the factors, by the block's bytes
pub column_by_bytes : (factors : List ℕ) (planes : Planes) (b row column : ℕ) → row < 4 → column < 4
    → column_sum factors (sliced_block planes b) row column
    ≡ bit_xor (bit_xor (bit_xor
    (product (slice_index factors 0) (sliced_byte planes b (place_of row column)))
    (product (slice_index factors 1) (sliced_byte planes b (place_of ((row + 1) % 4) column))))
    (product (slice_index factors 2) (sliced_byte planes b (place_of ((row + 2) % 4) column))))
    (product (slice_index factors 3) (sliced_byte planes b (place_of ((row + 3) % 4) column)))
column_by_bytes factors planes b row column hr hc =
    let at : (row : ℕ) → row < 4
    → cell (sliced_block planes b) row column ≡ sliced_byte planes b (place_of row column) =
    λ row hr. cell-sliced_block planes b row column hr hc in
    λ i. bit_xor (bit_xor (bit_xor
    (product (slice_index factors 0) (at row hr i))
    (product (slice_index factors 1) (at ((row + 1) % 4) (omega arith) i)))
    (product (slice_index factors 2) (at ((row + 2) % 4) (omega arith) i)))
    (product (slice_index factors 3) (at ((row + 3) % 4) (omega arith) i))
