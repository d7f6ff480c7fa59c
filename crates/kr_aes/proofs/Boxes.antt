-- The S-box by rotations, and a list of 16 as the state with its cells.
use Rattle.std.proofs.Common.{◌≡◌, ℕ, ◌+◌, ◌*◌, ◌/◌, ◌%◌, ◌<◌, List, length, slice_index, bit_xor, refl, arith}
use Rattle.std.specs.Int.{w8, rotate_left}
use Rattle.std.proofs.lemmas.List.FromFn.{fill_by_all}
use Rattle.kr_aes.specs.Cipher.{affine, cell_state}
use Rattle.kr_aes.proofs.Blocks.{inverse_affine}
use Rattle.kr_aes.proofs.Cases.{same_below}

-- a byte, four rotations of it and the constant
abbrev rotations : ℕ → ℕ
rotations b = bit_xor (bit_xor (bit_xor (bit_xor (bit_xor b (rotate_left w8 b 1)) (rotate_left w8 b 2)) (rotate_left w8 b 3)) (rotate_left w8 b 4)) 99

pub rotations-affine : (b : ℕ) → b < 256 → rotations b ≡ affine b
rotations-affine = same_below 256 rotations affine refl

-- three rotations of a byte and the inverse map's constant
abbrev inverse_rotations : ℕ → ℕ
inverse_rotations b = bit_xor (bit_xor (bit_xor (rotate_left w8 b 1) (rotate_left w8 b 3)) (rotate_left w8 b 6)) 5

pub inverse_rotations-affine : (b : ℕ) → b < 256 → inverse_rotations b ≡ inverse_affine b
inverse_rotations-affine = same_below 256 inverse_rotations inverse_affine refl

pub state_of_cells : (s : List ℕ) (f : ℕ → ℕ → ℕ) → length s ≡ 16 → ((k : ℕ) → k < 16 → slice_index s k ≡ f (k % 4) (k / 4)) → s ≡ cell_state f
state_of_cells s f len h = fill_by_all (λ k. f (k % 4) (k / 4)) s 16 0 len h

-- the cell that byte k is
pub place_of_cell : (k : ℕ) → k ≡ k % 4 + 4 * (k / 4)
place_of_cell k = omega arith
