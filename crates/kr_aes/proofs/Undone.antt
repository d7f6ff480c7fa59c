-- Each inverse transformation undoes its own.
use Rattle.std.proofs.Common.{◌≡◌, ℕ, List, length, slice_index, bit_xor, sym, ap, ◌∙◌, ◌+◌, ◌*◌, ◌/◌, ◌%◌}
use Rattle.std.specs.Int.Bits.{xor_self, xor_zero_r}
use lib.Bits.{xor_assoc}
use Rattle.kr_aes.specs.Cipher.{IsBlock, add_round_key, cell, sbox, shift_rows, cell_state, sub_bytes, word_byte}
use Rattle.kr_aes.specs.InverseCipher.{inverse_sbox, inverse_shift_rows, inverse_sub_bytes}
use Rattle.kr_aes.proofs.Blocks.{cell-lt}
use Rattle.kr_aes.proofs.Boxes.{place_of_cell, state_of_cells}
use Rattle.kr_aes.proofs.TableCells.{inverse_sbox-sbox}

-- a state is its cells
pub cell_state-cell : (state : List ℕ) → length state ≡ 16 → state ≡ cell_state (cell state)
cell_state-cell state size = state_of_cells state (cell state) size (λ k lt. ap (slice_index state) (place_of_cell k))

pub inverse_shift_rows-shift_rows : (state : List ℕ) → length state ≡ 16 → inverse_shift_rows (shift_rows state) ≡ state
unfolding inverse_shift_rows shift_rows
inverse_shift_rows-shift_rows state size = sym (cell_state-cell state size)

pub add_round_key_twice : (words : List ℕ) (round : ℕ) (state : List ℕ) → length state ≡ 16 → add_round_key words round (add_round_key words round state) ≡ state
unfolding add_round_key
add_round_key_twice words round state size =
    let key : ℕ → ℕ → ℕ = λ row column. word_byte (slice_index words (4 * round + column)) row in
    sym (state_of_cells state (λ row column. bit_xor (bit_xor (cell state row column) (key row column)) (key row column)) size
    (λ k lt. ap (slice_index state) (place_of_cell k) ∙ sym (twice (cell state (k % 4) (k / 4)) (key (k % 4) (k / 4)))))
  where
    twice : (a b : ℕ) → bit_xor (bit_xor a b) b ≡ a
    twice a b = xor_assoc a b b ∙ ap (bit_xor a) (xor_self b) ∙ xor_zero_r a

pub inverse_sub_bytes-sub_bytes : (state : List ℕ) → IsBlock state → inverse_sub_bytes (sub_bytes state) ≡ state
unfolding inverse_sub_bytes sub_bytes
inverse_sub_bytes-sub_bytes state is =
    sym (state_of_cells state (λ row column. inverse_sbox (sbox (cell state row column))) is.size
    (λ k lt. ap (slice_index state) (place_of_cell k) ∙ sym (inverse_sbox-sbox (cell state (k % 4) (k / 4)) (cell-lt state is (k % 4 + 4 * (k / 4))))))
