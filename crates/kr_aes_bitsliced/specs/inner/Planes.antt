-- Eight blocks as planes: plane k has bit k of each of their bytes, that of block b as bit b of its
-- own. Bytes lie by rows of the state (FIPS 197 section 3.4), so that rows move as whole words.
use Rattle.std.specs.Prelude.{◌≡◌, ℕ, ◌+◌, ◌*◌, ◌<◌, List, [], ◌∷◌, get_or, slice_index}
use Rattle.std.specs.Int.{bit_at}
use Rattle.kr_aes.specs.Cipher.{byte_of, cell_state}
use Rattle.kr_aes_bitsliced.specs.declared.planes.Planes.{Planes}

-- the place of a byte in a row and a column
abbrev pub place_of : ℕ → ℕ → ℕ
place_of row column = 4 * row + column

abbrev pub plane : Planes → ℕ → List ℕ
plane planes k = get_or
    (planes.p0 ∷ planes.p1 ∷ planes.p2 ∷ planes.p3 ∷
    planes.p4 ∷ planes.p5 ∷ planes.p6 ∷ planes.p7 ∷ [])
    k []

-- the byte in each row and column comes from this place of the plane
abbrev pub HasMoved : (ℕ → ℕ → ℕ) → List ℕ → List ℕ → Type 0
HasMoved from plane moved = (row column : ℕ) → row < 4 → column < 4
    → slice_index moved (place_of row column) ≡ slice_index plane (from row column)

-- the byte of block b at place p
unfoldable pub sliced_byte : Planes → ℕ → ℕ → ℕ
sliced_byte planes b p = byte_of (λ k. bit_at (slice_index (plane planes k) p) b)

-- block b
unfoldable pub sliced_block : Planes → ℕ → List ℕ
sliced_block planes b = cell_state (λ row column. sliced_byte planes b (place_of row column))

-- the block whose bytes lie by rows
abbrev pub block_of_rows : List ℕ → List ℕ
block_of_rows rows = cell_state (λ row column. slice_index rows (place_of row column))
