-- What a cipher gives is a block.
use Rattle.std.proofs.Common.{◌≡◌, ℕ, suc, length, inl, inr, ◌-◌, ◌+◌, ◌*◌, ◌/◌, ◌%◌, ◌<◌, List, bit_xor, slice_index, refl, arith, mod-lt}
use Rattle.std.specs.Int.{bit_at}
use Rattle.std.proofs.lemmas.Nat.{xor_of_8}
use Rattle.std.proofs.lemmas.List.{get_or_past}
use Rattle.std.proofs.lemmas.List.Elements.{All-from_get_or, All-get_or}
use Rattle.std.proofs.lemmas.List.FromFn.{get_or-map-range_with_len}
use Rattle.std.proofs.lemmas.Bool.{cases_lt}
use Rattle.kr_aes.specs.declared.Rounds.{Rounds}
use Rattle.kr_aes.specs.Field.{inverse}
use Rattle.kr_aes.specs.Cipher.{IsBlock, add_round_key, affine, after_rounds, byte_of, cell, cipher, round_count, sbox, shift_rows, cell_state, sub_bytes, word_byte}

-- byte k of a state
pub slice_index-cell_state : (s : ℕ → ℕ → ℕ) (k : ℕ) → k < 16 → slice_index (cell_state s) k ≡ s (k % 4) (k / 4)
slice_index-cell_state s k h = get_or-map-range_with_len (λ i. s (i % 4) (i / 4)) 0 16 k k 0 h (omega arith)

-- a state whose cells are bytes
pub IsBlock-cell_state : (s : ℕ → ℕ → ℕ) → ((row column : ℕ) → s row column < 256) → IsBlock (cell_state s)
IsBlock-cell_state s h = record {
  size = refl;
  bytes = All-from_get_or (λ byte. byte < 256) (cell_state s) 0 (λ k lt. rw (slice_index-cell_state s k lt) (h (k % 4) (k / 4)));
}

-- each cell of a block is a byte, also one past the end, which is read as 0
pub cell-lt : (block : List ℕ) → IsBlock block → (k : ℕ) → slice_index block k < 256
cell-lt block is k = elim (cases_lt k (length block)) [
  | inl lt ↦ All-get_or (λ byte. byte < 256) block k 0 lt is.bytes
  | inr ge ↦ rw (get_or_past block k 0 ge) (omega arith)
]

byte_of-lt : (bit : ℕ → ℕ) → ((i : ℕ) → bit i < 2) → byte_of bit < 256
byte_of-lt bit h = omega (arith, h 0, h 1, h 2, h 3, h 4, h 5, h 6, h 7)

pub affine-lt : (b : ℕ) → affine b < 256
affine-lt b = byte_of-lt (λ i.
    (bit_at b i + bit_at b ((i + 4) % 8) + bit_at b ((i + 5) % 8) + bit_at b ((i + 6) % 8)
    + bit_at b ((i + 7) % 8) + bit_at 0x63 i) % 2) (λ i. mod-lt _ (omega arith))

-- the inverse of the affine map, whose constant is 05 hex: bit i is the sum of three bits and of
-- the constant's
abbrev pub inverse_affine : ℕ → ℕ
inverse_affine b = byte_of (λ i.
    (bit_at b ((i + 2) % 8) + bit_at b ((i + 5) % 8) + bit_at b ((i + 7) % 8) + bit_at 5 i) % 2)

pub inverse_affine-lt : (b : ℕ) → inverse_affine b < 256
inverse_affine-lt b = byte_of-lt
    (λ i. (bit_at b ((i + 2) % 8) + bit_at b ((i + 5) % 8) + bit_at b ((i + 7) % 8) + bit_at 0x05 i) % 2) (λ i. mod-lt _ (omega arith))

pub sbox-lt : (b : ℕ) → sbox b < 256
unfolding sbox
sbox-lt b = affine-lt (inverse b)

pub word_byte-lt : (word r : ℕ) → word_byte word r < 256
word_byte-lt word (suc (suc (suc (suc r)))) = omega arith
word_byte-lt word other = mod-lt _ (omega arith)

pub IsBlock-sub_bytes : (state : List ℕ) → IsBlock (sub_bytes state)
unfolding sub_bytes
IsBlock-sub_bytes state = IsBlock-cell_state (λ row column. sbox (cell state row column)) (λ row column. sbox-lt (cell state row column))

pub IsBlock-shift_rows : (state : List ℕ) → IsBlock state → IsBlock (shift_rows state)
unfolding shift_rows
IsBlock-shift_rows state is =
    IsBlock-cell_state (λ row column. cell state row ((column + row) % 4)) (λ row column. cell-lt state is (row + 4 * ((column + row) % 4)))

pub IsBlock-add_round_key : (words : List ℕ) (round : ℕ) (state : List ℕ) → IsBlock state → IsBlock (add_round_key words round state)
unfolding add_round_key
IsBlock-add_round_key words round state is =
    IsBlock-cell_state (λ row column. bit_xor (cell state row column) (word_byte (slice_index words (4 * round + column)) row))
    (λ row column. xor_of_8 _ _ (cell-lt state is (row + 4 * column)) (word_byte-lt (slice_index words (4 * round + column)) row))

-- what a cipher gives is a block
pub IsBlock-cipher : (words : List ℕ) (rounds : Rounds) (block : List ℕ) → IsBlock (cipher words rounds block)
unfolding cipher
IsBlock-cipher words rounds block =
    let before : List ℕ = after_rounds words block (round_count rounds - 1) in
    IsBlock-add_round_key words (round_count rounds) (shift_rows (sub_bytes before)) (IsBlock-shift_rows (sub_bytes before) (IsBlock-sub_bytes before))

pub length-cipher : (words : List ℕ) (rounds : Rounds) (block : List ℕ) → length (cipher words rounds block) ≡ 16
length-cipher words rounds block = (IsBlock-cipher words rounds block).size
