-- The inverse cipher undoes the cipher, round by round.
use Rattle.std.proofs.Common.{◌≡◌, ℕ, zero, suc, List, ap, ◌∙◌, arith, ◌+◌, ◌-◌}
use Rattle.kr_aes.specs.declared.Rounds.{Rounds}
use Rattle.kr_aes.specs.Cipher.{IsBlock, add_round_key, after_rounds, cipher, mix_columns, round_count, shift_rows, sub_bytes}
use Rattle.kr_aes.specs.InverseCipher.{after_inverse_rounds, inverse_cipher, inverse_mix_columns, inverse_shift_rows, inverse_sub_bytes}
use Rattle.kr_aes.proofs.Blocks.{IsBlock-add_round_key, IsBlock-shift_rows, IsBlock-sub_bytes}
use Rattle.kr_aes.proofs.MixedColumns.{IsBlock-mix_columns, inverse_mix_columns-mix_columns}
use Rattle.kr_aes.proofs.RoundCounts.{one_round}
use Rattle.kr_aes.proofs.Undone.{add_round_key_twice, inverse_shift_rows-shift_rows, inverse_sub_bytes-sub_bytes}

-- what a round makes of a state before MixColumns
abbrev mixed_up : List ℕ → List ℕ
mixed_up state = shift_rows (sub_bytes state)

IsBlock-mixed_up : (state : List ℕ) → IsBlock (mixed_up state)
IsBlock-mixed_up state = IsBlock-shift_rows (sub_bytes state) (IsBlock-sub_bytes state)

IsBlock-after_rounds : (words block : List ℕ) (n : ℕ) → IsBlock block → IsBlock (after_rounds words block n)
unfolding after_rounds
IsBlock-after_rounds words block zero is = IsBlock-add_round_key words 0 block is
IsBlock-after_rounds words block (suc n) is =
    let before : List ℕ = mixed_up (after_rounds words block n) in
    IsBlock-add_round_key words (suc n) (mix_columns before) (IsBlock-mix_columns before (IsBlock-mixed_up (after_rounds words block n)))

inverse-mixed_up : (state : List ℕ) → IsBlock state → inverse_sub_bytes (inverse_shift_rows (mixed_up state)) ≡ state
inverse-mixed_up state is =
    ap inverse_sub_bytes (inverse_shift_rows-shift_rows (sub_bytes state) (IsBlock-sub_bytes state).size)
    ∙ inverse_sub_bytes-sub_bytes state is

-- n inverse rounds leave what the m rounds before them made
undone_rounds : (words block : List ℕ) (last n m : ℕ) → IsBlock block → n + m + 1 ≡ last
    → after_inverse_rounds words last (add_round_key words last (mixed_up (after_rounds words block (last - 1)))) n ≡ mixed_up (after_rounds words block m)
unfolding after_inverse_rounds after_rounds
undone_rounds words block last zero m is e =
    let at : last - 1 ≡ m = omega arith in
    add_round_key_twice words last (mixed_up (after_rounds words block (last - 1))) (IsBlock-mixed_up (after_rounds words block (last - 1))).size
    ∙ ap (λ i. mixed_up (after_rounds words block i)) at
undone_rounds words block last (suc n) m is e =
    let before : List ℕ = mixed_up (after_rounds words block m) in
    let at : last - suc n ≡ suc m = omega arith in
    ap (λ s. inverse_mix_columns (add_round_key words (last - suc n) (inverse_sub_bytes (inverse_shift_rows s)))) (undone_rounds words block last n (suc m) is (omega arith))
    ∙ ap (λ s. inverse_mix_columns (add_round_key words (last - suc n) s)) (inverse-mixed_up (after_rounds words block (suc m)) (IsBlock-after_rounds words block (suc m) is))
    ∙ ap (λ i. inverse_mix_columns (add_round_key words i (add_round_key words (suc m) (mix_columns before)))) at
    ∙ ap inverse_mix_columns (add_round_key_twice words (suc m) (mix_columns before) (IsBlock-mix_columns before (IsBlock-mixed_up (after_rounds words block m))).size)
    ∙ inverse_mix_columns-mix_columns before (IsBlock-mixed_up (after_rounds words block m))

-- the inverse cipher undoes the cipher
pub inverse_cipher-cipher : (words : List ℕ) (rounds : Rounds) (block : List ℕ) → IsBlock block → inverse_cipher words rounds (cipher words rounds block) ≡ block
unfolding inverse_cipher cipher after_rounds
inverse_cipher-cipher words rounds block is =
    let last : ℕ = round_count rounds in
    ap (λ s. add_round_key words 0 (inverse_sub_bytes (inverse_shift_rows s))) (undone_rounds words block last (last - 1) 0 is (one_round rounds))
    ∙ ap (add_round_key words 0) (inverse-mixed_up (add_round_key words 0 block) (IsBlock-add_round_key words 0 block is))
    ∙ add_round_key_twice words 0 block is.size
