-- A block by its bits.
use Rattle.std.proofs.Common.{◌≡◌, ℕ, ◌+◌, ◌*◌, ◌<◌, List, length, slice_index, sym, ap, ◌∙◌, arith}
use Rattle.std.specs.Int.{bit_at}
use Rattle.kr_aes.specs.Cipher.{cell}
use Rattle.kr_aes.proofs.Boxes.{place_of_cell, state_of_cells}
use Rattle.kr_aes.proofs.MixedColumns.{cell-cell_state}
use Rattle.kr_aes_bitsliced.specs.declared.planes.Planes.{Planes}
use Rattle.kr_aes_bitsliced.specs.inner.Planes.{block_of_rows, place_of, plane, sliced_block, sliced_byte}
use Rattle.kr_aes_bitsliced.proofs.ByteBits.{byte_of_bits, same_bits}
use Rattle.kr_aes_bitsliced.proofs.PlaneSums.{IsPlane}
use Rattle.kr_aes_bitsliced.proofs.SlicedBlocks.{same_cells, sliced_block-cell_state}

-- a byte whose bits are those of the planes
byte_by_bits : (planes : Planes) (b p byte : ℕ) → byte < 256
    → ((k : ℕ) → k < 8 → bit_at byte k ≡ bit_at (slice_index (plane planes k) p) b)
    → sliced_byte planes b p ≡ byte
unfolding sliced_byte
byte_by_bits planes b p byte lt bits =
    sym (same_bits (bit_at byte) (λ k. bit_at (slice_index (plane planes k) p) b) bits)
    ∙ byte_of_bits byte lt

-- a block by rows, whose bits are those of the planes
pub sliced_block_of_rows : (planes : Planes) (b : ℕ) (rows : List ℕ) → IsPlane rows
    → ((p k : ℕ) → p < 16 → k < 8
    → bit_at (slice_index rows p) k ≡ bit_at (slice_index (plane planes k) p) b)
    → sliced_block planes b ≡ block_of_rows rows
sliced_block_of_rows planes b rows is_plane bits =
    sliced_block-cell_state planes b (λ row column. slice_index rows (place_of row column))
    (λ row column hr hc.
    let p : ℕ = place_of row column in
    let lt : p < 16 = omega arith in
    byte_by_bits planes b p (slice_index rows p) (is_plane.bytes p lt) (λ k. bits p k lt))

-- rows for columns and columns for rows, twice
pub rows_twice : (block : List ℕ) → length block ≡ 16 → block_of_rows (block_of_rows block) ≡ block
rows_twice block size =
    same_cells (λ row column. slice_index (block_of_rows block) (place_of row column)) (cell block)
    (λ row column hr hc.
    let turned : place_of row column ≡ column + 4 * row = omega arith in
    let back : place_of column row ≡ row + 4 * column = omega arith in
    ap (slice_index (block_of_rows block)) turned
    ∙ cell-cell_state (λ row column. slice_index block (place_of row column)) column row hc hr
    ∙ ap (slice_index block) back)
    ∙ sym (state_of_cells block (cell block) size (λ k lt. ap (slice_index block) (place_of_cell k)))
