-- The equivalent inverse cipher is the inverse cipher.
use Rattle.std.proofs.Common.{◌≡◌, ℕ, zero, suc, ◌+◌, ◌-◌, ◌*◌, ◌<◌, ◌≤◌, ◌%◌, ◌⊎◌, inl, inr, List, [], ◌∷◌, bit_xor, slice_index, refl, sym, ap, ◌∙◌, arith, lit<}
use Rattle.std.proofs.lemmas.Bool.Decides.{nat_tests}
use Rattle.std.proofs.lemmas.List.FromFn.{get_or-map-range_with_len}
use Rattle.kr_aes.specs.declared.Rounds.{Rounds}
use Rattle.kr_aes.specs.Field.{product}
use Rattle.kr_aes.specs.Cipher.{add_round_key, matrix_product, round_count, word_byte}
use Rattle.kr_aes.specs.InverseCipher.{after_inverse_rounds, inverse_cipher, inverse_mix_columns, inverse_shift_rows, inverse_sub_bytes}
use Rattle.kr_aes.specs.EquivalentInverse.{after_equivalent_rounds, equivalent_inverse_cipher, inverse_mixed_word, inverse_schedule, inverse_word}
use Rattle.kr_aes.proofs.Blocks.{word_byte-lt}
use Rattle.kr_aes.proofs.ColumnWords.{word_byte-from_be_bytes}
use Rattle.kr_aes.proofs.Linear.{product-xor}
use Rattle.kr_aes.proofs.MixedColumns.{inverse_sum, inverse_sum-lt}
use Rattle.kr_aes.proofs.Rows.{same16}
use Rattle.kr_aes.proofs.RoundCounts.{few_rounds, some_rounds}
use Rattle.kr_aes.proofs.Sums.{sum4, sum4-same, sum4-xor}

-- ---- InvMixColumns of a word

-- the sum at a row of a word
abbrev word_sum : ℕ → ℕ → ℕ
word_sum word row = inverse_sum (word_byte word row) (word_byte word ((row + 1) % 4)) (word_byte word ((row + 2) % 4)) (word_byte word ((row + 3) % 4))

word_sum-lt : (word row : ℕ) → word_sum word row < 256
word_sum-lt word row = inverse_sum-lt _ _ _ _ (word_byte-lt word _) (word_byte-lt word _) (word_byte-lt word _) (word_byte-lt word _)

sums-lt : (word i : ℕ) → slice_index (word_sum word 0 ∷ word_sum word 1 ∷ word_sum word 2 ∷ word_sum word 3 ∷ []) i < 256
sums-lt word zero = word_sum-lt word 0
sums-lt word (suc zero) = word_sum-lt word 1
sums-lt word (suc (suc zero)) = word_sum-lt word 2
sums-lt word (suc (suc (suc zero))) = word_sum-lt word 3
sums-lt word (suc (suc (suc (suc i)))) = omega arith

pub word_byte-inverse_mixed_word : (word row : ℕ) → word_byte (inverse_mixed_word word) row ≡ slice_index (word_sum word 0 ∷ word_sum word 1 ∷ word_sum word 2 ∷ word_sum word 3 ∷ []) row
unfolding inverse_mixed_word sum4
word_byte-inverse_mixed_word word row =
    word_byte-from_be_bytes (word_sum word 0 ∷ word_sum word 1 ∷ word_sum word 2 ∷ word_sum word 3 ∷ []) refl (sums-lt word) row

-- ---- keys and InvMixColumns

-- the sum of a column and of a key's word
sum_and_key : (x y z w p q u v k : ℕ) → k ≡ inverse_sum p q u v
    → bit_xor (inverse_sum x y z w) k ≡ inverse_sum (bit_xor x p) (bit_xor y q) (bit_xor z u) (bit_xor w v)
sum_and_key x y z w p q u v k e =
    ap (bit_xor (inverse_sum x y z w)) e
    ∙ sym (sum4-xor (product 14 x) (product 11 y) (product 13 z) (product 9 w) (product 14 p) (product 11 q) (product 13 u) (product 9 v))
    ∙ sym (sum4-same (product-xor 14 x p) (product-xor 11 y q) (product-xor 13 z u) (product-xor 9 w v))

-- a key's words under InvMixColumns are added after it
pub key_after_mixing : (words inverse : List ℕ) (round : ℕ) (state : List ℕ)
    → ((i : ℕ) → i < 4 → slice_index inverse (4 * round + i) ≡ inverse_mixed_word (slice_index words (4 * round + i)))
    → add_round_key inverse round (inverse_mix_columns state) ≡ inverse_mix_columns (add_round_key words round state)
unfolding add_round_key matrix_product sum4
key_after_mixing words inverse round state is =
    let byte : (i row : ℕ) → i < 4 → word_byte (slice_index inverse (4 * round + i)) row
    ≡ slice_index (word_sum (slice_index words (4 * round + i)) 0 ∷ word_sum (slice_index words (4 * round + i)) 1 ∷ word_sum (slice_index words (4 * round + i)) 2 ∷ word_sum (slice_index words (4 * round + i)) 3 ∷ []) row =
    λ i row lt. ap (λ (x : ℕ). word_byte x row) (is i lt) ∙ word_byte-inverse_mixed_word (slice_index words (4 * round + i)) row in
    same16
    (sum_and_key _ _ _ _ _ _ _ _ _ (byte 0 0 (lit< tt)))
    (sum_and_key _ _ _ _ _ _ _ _ _ (byte 0 1 (lit< tt)))
    (sum_and_key _ _ _ _ _ _ _ _ _ (byte 0 2 (lit< tt)))
    (sum_and_key _ _ _ _ _ _ _ _ _ (byte 0 3 (lit< tt)))
    (sum_and_key _ _ _ _ _ _ _ _ _ (byte 1 0 (lit< tt)))
    (sum_and_key _ _ _ _ _ _ _ _ _ (byte 1 1 (lit< tt)))
    (sum_and_key _ _ _ _ _ _ _ _ _ (byte 1 2 (lit< tt)))
    (sum_and_key _ _ _ _ _ _ _ _ _ (byte 1 3 (lit< tt)))
    (sum_and_key _ _ _ _ _ _ _ _ _ (byte 2 0 (lit< tt)))
    (sum_and_key _ _ _ _ _ _ _ _ _ (byte 2 1 (lit< tt)))
    (sum_and_key _ _ _ _ _ _ _ _ _ (byte 2 2 (lit< tt)))
    (sum_and_key _ _ _ _ _ _ _ _ _ (byte 2 3 (lit< tt)))
    (sum_and_key _ _ _ _ _ _ _ _ _ (byte 3 0 (lit< tt)))
    (sum_and_key _ _ _ _ _ _ _ _ _ (byte 3 1 (lit< tt)))
    (sum_and_key _ _ _ _ _ _ _ _ _ (byte 3 2 (lit< tt)))
    (sum_and_key _ _ _ _ _ _ _ _ _ (byte 3 3 (lit< tt)))

-- keys of the same words
pub same_key : (words inverse : List ℕ) (round : ℕ) (state : List ℕ)
    → ((i : ℕ) → i < 4 → slice_index inverse (4 * round + i) ≡ slice_index words (4 * round + i))
    → add_round_key inverse round state ≡ add_round_key words round state
unfolding add_round_key
same_key words inverse round state is =
    same16
    (ap (λ (x : ℕ). bit_xor (slice_index state 0) (word_byte x 0)) (is 0 (lit< tt)))
    (ap (λ (x : ℕ). bit_xor (slice_index state 1) (word_byte x 1)) (is 0 (lit< tt)))
    (ap (λ (x : ℕ). bit_xor (slice_index state 2) (word_byte x 2)) (is 0 (lit< tt)))
    (ap (λ (x : ℕ). bit_xor (slice_index state 3) (word_byte x 3)) (is 0 (lit< tt)))
    (ap (λ (x : ℕ). bit_xor (slice_index state 4) (word_byte x 0)) (is 1 (lit< tt)))
    (ap (λ (x : ℕ). bit_xor (slice_index state 5) (word_byte x 1)) (is 1 (lit< tt)))
    (ap (λ (x : ℕ). bit_xor (slice_index state 6) (word_byte x 2)) (is 1 (lit< tt)))
    (ap (λ (x : ℕ). bit_xor (slice_index state 7) (word_byte x 3)) (is 1 (lit< tt)))
    (ap (λ (x : ℕ). bit_xor (slice_index state 8) (word_byte x 0)) (is 2 (lit< tt)))
    (ap (λ (x : ℕ). bit_xor (slice_index state 9) (word_byte x 1)) (is 2 (lit< tt)))
    (ap (λ (x : ℕ). bit_xor (slice_index state 10) (word_byte x 2)) (is 2 (lit< tt)))
    (ap (λ (x : ℕ). bit_xor (slice_index state 11) (word_byte x 3)) (is 2 (lit< tt)))
    (ap (λ (x : ℕ). bit_xor (slice_index state 12) (word_byte x 0)) (is 3 (lit< tt)))
    (ap (λ (x : ℕ). bit_xor (slice_index state 13) (word_byte x 1)) (is 3 (lit< tt)))
    (ap (λ (x : ℕ). bit_xor (slice_index state 14) (word_byte x 2)) (is 3 (lit< tt)))
    (ap (λ (x : ℕ). bit_xor (slice_index state 15) (word_byte x 3)) (is 3 (lit< tt)))

-- the byte steps commute
steps_change : (state : List ℕ) → inverse_shift_rows (inverse_sub_bytes state) ≡ inverse_sub_bytes (inverse_shift_rows state)
unfolding inverse_shift_rows inverse_sub_bytes
steps_change state = refl

-- ---- the words of the schedule

slice_index-inverse_schedule : (words : List ℕ) (rounds : Rounds) (i : ℕ) → i < 60 → slice_index (inverse_schedule words rounds) i ≡ inverse_word words (round_count rounds) i
unfolding inverse_schedule
slice_index-inverse_schedule words rounds i lt = get_or-map-range_with_len (inverse_word words (round_count rounds)) 0 60 i i 0 lt (omega arith)

pub inverse_word-mixed : (words : List ℕ) (last i : ℕ) → 4 ≤ i → i < 4 * last → inverse_word words last i ≡ inverse_mixed_word (slice_index words i)
unfolding inverse_word
inverse_word-mixed words last i some lt = grind (arith, nat_tests)

pub inverse_word-kept : (words : List ℕ) (last i : ℕ) → (i < 4) ⊎ (4 * last ≤ i) → inverse_word words last i ≡ slice_index words i
unfolding inverse_word
inverse_word-kept words last i out = grind (arith, nat_tests)

-- ---- round by round

equivalent_rounds : (words : List ℕ) (rounds : Rounds) (block : List ℕ) (n : ℕ) → n < round_count rounds
    → after_equivalent_rounds (inverse_schedule words rounds) (round_count rounds) block n ≡ after_inverse_rounds words (round_count rounds) block n
unfolding after_equivalent_rounds after_inverse_rounds
equivalent_rounds words rounds block zero lt =
    same_key words (inverse_schedule words rounds) (round_count rounds) block (λ i h.
    slice_index-inverse_schedule words rounds (4 * round_count rounds + i) (omega (arith, few_rounds rounds))
    ∙ inverse_word-kept words (round_count rounds) (4 * round_count rounds + i) (inr (omega arith)))
equivalent_rounds words rounds block (suc n) lt =
    let last : ℕ = round_count rounds in
    let inverse : List ℕ = inverse_schedule words rounds in
    let round : ℕ = last - suc n in
    let before : List ℕ = after_inverse_rounds words last block n in
    ap (λ s. add_round_key inverse round (inverse_mix_columns (inverse_shift_rows (inverse_sub_bytes s)))) (equivalent_rounds words rounds block n (omega arith))
    ∙ key_after_mixing words inverse round (inverse_shift_rows (inverse_sub_bytes before)) (λ i h.
    slice_index-inverse_schedule words rounds (4 * round + i) (omega (arith, few_rounds rounds))
    ∙ inverse_word-mixed words last (4 * round + i) (omega arith) (omega arith))
    ∙ ap (λ s. inverse_mix_columns (add_round_key words round s)) (steps_change before)

pub equivalent_is_inverse : (words : List ℕ) (rounds : Rounds) (block : List ℕ) → equivalent_inverse_cipher (inverse_schedule words rounds) rounds block ≡ inverse_cipher words rounds block
unfolding equivalent_inverse_cipher inverse_cipher
equivalent_is_inverse words rounds block =
    let last : ℕ = round_count rounds in
    let inverse : List ℕ = inverse_schedule words rounds in
    ap (λ s. add_round_key inverse 0 (inverse_shift_rows (inverse_sub_bytes s))) (equivalent_rounds words rounds block (last - 1) (omega (arith, some_rounds rounds)))
    ∙ same_key words inverse 0 (inverse_shift_rows (inverse_sub_bytes (after_inverse_rounds words last block (last - 1)))) (λ i h.
    slice_index-inverse_schedule words rounds (4 * 0 + i) (omega arith) ∙ inverse_word-kept words last (4 * 0 + i) (inl (omega arith)))
    ∙ ap (add_round_key words 0) (steps_change (after_inverse_rounds words last block (last - 1)))
