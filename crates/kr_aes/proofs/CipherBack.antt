-- The cipher undoes the inverse cipher, round by round.
use Rattle.std.proofs.Common.{◌≡◌, ℕ, zero, suc, List, length, slice_index, refl, sym, ap, ◌∙◌, arith, ◌+◌, ◌-◌, ◌*◌, ◌/◌, ◌%◌, ◌<◌}
use Rattle.kr_aes.specs.declared.Rounds.{Rounds}
use Rattle.kr_aes.specs.Field.{inverse, polynomial_product, product, remainder}
use Rattle.kr_aes.specs.Cipher.{IsBlock, add_round_key, affine, after_rounds, cell, cipher, mix_columns, round_count, sbox, shift_rows, sub_bytes}
use Rattle.kr_aes.specs.InverseCipher.{after_inverse_rounds, inverse_cipher, inverse_sbox, inverse_shift_rows, inverse_sub_bytes}
use Rattle.kr_aes.proofs.Blocks.{IsBlock-add_round_key, IsBlock-cell_state, cell-lt, inverse_affine, inverse_affine-lt}
use Rattle.kr_aes.proofs.Boxes.{place_of_cell, state_of_cells}
use Rattle.kr_aes.proofs.Cases.{bytes_below, same_below}
use Rattle.kr_aes.proofs.InverseBlocks.{IsBlock-inverse_sub_bytes}
use Rattle.kr_aes.proofs.RoundCounts.{one_round}
use Rattle.kr_aes.proofs.Powers.{times_squares, times_squares-inverse}
use Rattle.kr_aes.proofs.TableCells.{inverse-inverse_affine}
use Rattle.kr_aes.proofs.Undone.{add_round_key_twice, cell_state-cell}
use Rattle.kr_aes.proofs.MixedColumns.{IsBlock-inverse_mix_columns, mix_columns-inverse_mix_columns}

-- ---- each transformation undoes its inverse

squares_twice : (b : ℕ) → b < 256 → times_squares 7 (times_squares 7 b 1) 1 ≡ b
unfolding product polynomial_product remainder times_squares
squares_twice = same_below 256 (λ b. times_squares 7 (times_squares 7 b 1) 1) (λ b. b) refl

squares-lt : (b : ℕ) → b < 256 → times_squares 7 b 1 < 256
unfolding product polynomial_product remainder times_squares
squares-lt = bytes_below 256 (λ b. times_squares 7 b 1) refl

inverse_twice : (b : ℕ) → b < 256 → inverse (inverse b) ≡ b
inverse_twice b h =
    ap inverse (sym (times_squares-inverse b h)) ∙ sym (times_squares-inverse (times_squares 7 b 1) (squares-lt b h)) ∙ squares_twice b h

affine_back : (b : ℕ) → b < 256 → affine (inverse_affine b) ≡ b
affine_back = same_below 256 (λ b. affine (inverse_affine b)) (λ b. b) refl

sbox-inverse_sbox : (b : ℕ) → b < 256 → sbox (inverse_sbox b) ≡ b
unfolding sbox
sbox-inverse_sbox b h =
    ap sbox (sym (inverse-inverse_affine b h)) ∙ ap affine (inverse_twice (inverse_affine b) (inverse_affine-lt b)) ∙ affine_back b h

sub_bytes-inverse_sub_bytes : (state : List ℕ) → IsBlock state → sub_bytes (inverse_sub_bytes state) ≡ state
unfolding inverse_sub_bytes sub_bytes
sub_bytes-inverse_sub_bytes state is =
    sym (state_of_cells state (λ row column. sbox (inverse_sbox (cell state row column))) is.size
    (λ k lt. ap (slice_index state) (place_of_cell k) ∙ sym (sbox-inverse_sbox (cell state (k % 4) (k / 4)) (cell-lt state is (k % 4 + 4 * (k / 4))))))

shift_rows-inverse_shift_rows : (state : List ℕ) → length state ≡ 16 → shift_rows (inverse_shift_rows state) ≡ state
unfolding inverse_shift_rows shift_rows
shift_rows-inverse_shift_rows state size = sym (cell_state-cell state size)

IsBlock-inverse_shift_rows : (state : List ℕ) → IsBlock state → IsBlock (inverse_shift_rows state)
unfolding inverse_shift_rows
IsBlock-inverse_shift_rows state is =
    IsBlock-cell_state (λ row column. cell state row ((column + 4 - row) % 4)) (λ row column. cell-lt state is (row + 4 * ((column + 4 - row) % 4)))

-- ---- the rounds

-- what a round of the inverse cipher makes of a state before the key
abbrev mixed_back : List ℕ → List ℕ
mixed_back state = inverse_sub_bytes (inverse_shift_rows state)

mixed_up : (state : List ℕ) → IsBlock state → shift_rows (sub_bytes (mixed_back state)) ≡ state
mixed_up state is =
    ap shift_rows (sub_bytes-inverse_sub_bytes (inverse_shift_rows state) (IsBlock-inverse_shift_rows state is))
    ∙ shift_rows-inverse_shift_rows state is.size

IsBlock-after_inverse_rounds : (words : List ℕ) (last : ℕ) (block : List ℕ) (n : ℕ) → IsBlock block → IsBlock (after_inverse_rounds words last block n)
unfolding after_inverse_rounds
IsBlock-after_inverse_rounds words last block zero is = IsBlock-add_round_key words last block is
IsBlock-after_inverse_rounds words last block (suc n) is =
    let before : List ℕ = mixed_back (after_inverse_rounds words last block n) in
    IsBlock-inverse_mix_columns (add_round_key words (last - suc n) before)
    (IsBlock-add_round_key words (last - suc n) before (IsBlock-inverse_sub_bytes (inverse_shift_rows (after_inverse_rounds words last block n))))

-- m rounds leave what the n inverse rounds before the others made
redone_rounds : (words block : List ℕ) (last n m : ℕ) → IsBlock block → n + m + 1 ≡ last
    → after_rounds words (add_round_key words 0 (mixed_back (after_inverse_rounds words last block (last - 1)))) m
    ≡ mixed_back (after_inverse_rounds words last block n)
unfolding after_inverse_rounds after_rounds
redone_rounds words block last n zero is e =
    let at : last - 1 ≡ n = omega arith in
    let before : List ℕ = after_inverse_rounds words last block (last - 1) in
    add_round_key_twice words 0 (mixed_back before) (IsBlock-inverse_sub_bytes (inverse_shift_rows before)).size
    ∙ ap (λ i. mixed_back (after_inverse_rounds words last block i)) at
redone_rounds words block last n (suc m) is e =
    let before : List ℕ = mixed_back (after_inverse_rounds words last block n) in
    let block_before : IsBlock before = IsBlock-inverse_sub_bytes (inverse_shift_rows (after_inverse_rounds words last block n)) in
    let at : last - suc n ≡ suc m = omega arith in
    ap (λ s. add_round_key words (suc m) (mix_columns (shift_rows (sub_bytes s)))) (redone_rounds words block last (suc n) m is (omega arith))
    ∙ ap (λ s. add_round_key words (suc m) (mix_columns s)) (mixed_up (after_inverse_rounds words last block (suc n)) (IsBlock-after_inverse_rounds words last block (suc n) is))
    ∙ ap (add_round_key words (suc m)) (mix_columns-inverse_mix_columns (add_round_key words (last - suc n) before) (IsBlock-add_round_key words (last - suc n) before block_before))
    ∙ ap (λ i. add_round_key words (suc m) (add_round_key words i before)) at
    ∙ add_round_key_twice words (suc m) before block_before.size

-- the cipher undoes the inverse cipher
pub cipher-inverse_cipher : (words : List ℕ) (rounds : Rounds) (block : List ℕ) → IsBlock block → cipher words rounds (inverse_cipher words rounds block) ≡ block
unfolding inverse_cipher cipher after_inverse_rounds
cipher-inverse_cipher words rounds block is =
    let last : ℕ = round_count rounds in
    ap (λ s. add_round_key words last (shift_rows (sub_bytes s))) (redone_rounds words block last 0 (last - 1) is (none_more rounds))
    ∙ ap (add_round_key words last) (mixed_up (add_round_key words last block) (IsBlock-add_round_key words last block is))
    ∙ add_round_key_twice words last block is.size
  where
    none_more : (rounds : Rounds) → 0 + (round_count rounds - 1) + 1 ≡ round_count rounds
    none_more rounds = omega (arith, one_round rounds)
