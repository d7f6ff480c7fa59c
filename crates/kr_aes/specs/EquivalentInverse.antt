-- The equivalent inverse cipher (FIPS 197, as updated in 2023, section 5.3.5): the inverse cipher
-- with the steps in the cipher's order, under a schedule of its own.
use Rattle.std.specs.Prelude.{◌≡◌, ℕ, zero, suc, ◌-◌, ◌*◌, ◌&&◌, if◌then◌else◌, nat_le, nat_lt, List, [], ◌∷◌, map, slice_index}
use Rattle.std.specs.Int.{w32, to_be_bytes}
use Rattle.std.specs.List.{range_with_len}
use Rattle.kr_aes.specs.declared.Rounds.{Rounds}
use Rattle.kr_aes.specs.Cipher.{add_round_key, column_sum, round_count}
use Rattle.kr_aes.specs.KeyExpansion.{packed_word}
use Rattle.kr_aes.specs.InverseCipher.{inverse_cipher, inverse_mix_columns, inverse_shift_rows, inverse_sub_bytes}

-- InvMixColumns of a word as a column
unfoldable pub inverse_mixed_word : ℕ → ℕ
inverse_mixed_word word =
    packed_word (λ row. column_sum (0xe ∷ 0xb ∷ 0xd ∷ 0x9 ∷ []) (to_be_bytes w32 word) row 0)

-- word i of its schedule: the words of the first and of the last round are those of the key
-- expansion, and so are the zeros behind them
unfoldable pub inverse_word : List ℕ → ℕ → ℕ → ℕ
inverse_word words last i =
    if nat_le 4 i && nat_lt i (4 * last) then inverse_mixed_word (slice_index words i)
    else slice_index words i

-- its schedule, 60 words in all, from those of the key expansion
unfoldable pub inverse_schedule : List ℕ → Rounds → List ℕ
inverse_schedule words rounds = map (inverse_word words (round_count rounds)) (range_with_len 0 60)

-- the state after the last key's addition and n rounds with InvMixColumns, which take the keys
-- downwards
unfoldable pub after_equivalent_rounds : List ℕ → ℕ → List ℕ → ℕ → List ℕ
after_equivalent_rounds inverse last block zero = add_round_key inverse last block
after_equivalent_rounds inverse last block (suc n) =
    add_round_key inverse (last - suc n)
    (inverse_mix_columns (inverse_shift_rows (inverse_sub_bytes
    (after_equivalent_rounds inverse last block n))))

-- the block that the schedule's words make of a cipher's block: the last round has no InvMixColumns
unfoldable pub equivalent_inverse_cipher : List ℕ → Rounds → List ℕ → List ℕ
equivalent_inverse_cipher inverse rounds block =
    add_round_key inverse 0 (inverse_shift_rows (inverse_sub_bytes
    (after_equivalent_rounds inverse (round_count rounds) block (round_count rounds - 1))))

-- ---- a law: it is the inverse cipher

abbrev pub EquivalentIsInverse : Type 0
EquivalentIsInverse = (words : List ℕ) (rounds : Rounds) (block : List ℕ)
    → equivalent_inverse_cipher (inverse_schedule words rounds) rounds block
    ≡ inverse_cipher words rounds block
