-- InvMixColumns of a word by the tables.
use Rattle.std.specs.Prelude.{get_or, []}
use Rattle.std.proofs.Common.{◌≡◌, ℕ, ◌^◌, ◌<◌, [], ◌∷◌, bit_xor, slice_index, subst, sym, ◌∙◌, lit<}
use Rattle.std.proofs.lemmas.Nat.{from_be_bytes-to_be_bytes_4, xor_of_32}
use Rattle.std.specs.Int.{w32, from_be_bytes, to_be_bytes}
use Rattle.kr_aes.specs.declared.tables.TheConstants.{INVERSE}
use Rattle.kr_aes.specs.Cipher.{column_sum, sbox, word_byte}
use Rattle.kr_aes.specs.EquivalentInverse.{inverse_mixed_word}
use Rattle.kr_aes.proofs.Blocks.{sbox-lt, word_byte-lt}
use Rattle.kr_aes.proofs.ColumnWords.{inverse_bytes}
use Rattle.kr_aes.proofs.TableCells.{inverse_sbox-sbox}

-- the four words, at the S-boxes of the word's bytes
abbrev by_tables : ℕ → ℕ
by_tables word =
    bit_xor (bit_xor (bit_xor (slice_index (get_or INVERSE 0 []) (sbox (word_byte word 0))) (slice_index (get_or INVERSE 1 []) (sbox (word_byte word 1)))) (slice_index (get_or INVERSE 2 []) (sbox (word_byte word 2)))) (slice_index (get_or INVERSE 3 []) (sbox (word_byte word 3)))

by_tables-byte : (word row : ℕ) → row < 4 → word_byte (by_tables word) row ≡ column_sum (14 ∷ 11 ∷ 13 ∷ 9 ∷ []) (to_be_bytes w32 word) row 0
by_tables-byte word row lt =
    inverse_bytes (sbox (word_byte word 0)) (sbox (word_byte word 1)) (sbox (word_byte word 2)) (sbox (word_byte word 3))
    (sbox-lt (word_byte word 0)) (sbox-lt (word_byte word 1)) (sbox-lt (word_byte word 2)) (sbox-lt (word_byte word 3)) row lt
    ∙ (λ i. column_sum (14 ∷ 11 ∷ 13 ∷ 9 ∷ [])
    (inverse_sbox-sbox (word_byte word 0) (word_byte-lt word 0) i ∷ inverse_sbox-sbox (word_byte word 1) (word_byte-lt word 1) i ∷ inverse_sbox-sbox (word_byte word 2) (word_byte-lt word 2) i ∷ inverse_sbox-sbox (word_byte word 3) (word_byte-lt word 3) i ∷ []) row 0)

same_word : {a b c d e f g h : ℕ} → a ≡ e → b ≡ f → c ≡ g → d ≡ h → from_be_bytes w32 (a ∷ b ∷ c ∷ d ∷ []) ≡ from_be_bytes w32 (e ∷ f ∷ g ∷ h ∷ [])
same_word p q r s = λ i. from_be_bytes w32 (p i ∷ q i ∷ r i ∷ s i ∷ [])

by_tables-mixed : (word : ℕ) → by_tables word < 2 ^ 32 → by_tables word ≡ inverse_mixed_word word
unfolding inverse_mixed_word
by_tables-mixed word fits =
    sym (from_be_bytes-to_be_bytes_4 (by_tables word) fits)
    ∙ same_word (by_tables-byte word 0 (lit< tt)) (by_tables-byte word 1 (lit< tt)) (by_tables-byte word 2 (lit< tt)) (by_tables-byte word 3 (lit< tt))

-- from the cells that were read
pub mixed_from_tables : (word a b c d : ℕ) → a < 2 ^ 32 → b < 2 ^ 32 → c < 2 ^ 32 → d < 2 ^ 32
    → a ≡ slice_index (get_or INVERSE 0 []) (sbox (word_byte word 0)) → b ≡ slice_index (get_or INVERSE 1 []) (sbox (word_byte word 1))
    → c ≡ slice_index (get_or INVERSE 2 []) (sbox (word_byte word 2)) → d ≡ slice_index (get_or INVERSE 3 []) (sbox (word_byte word 3))
    → bit_xor (bit_xor (bit_xor a b) c) d ≡ inverse_mixed_word word
mixed_from_tables word a b c d ha hb hc hd ea eb ec ed =
    let fits : bit_xor (bit_xor (bit_xor a b) c) d < 2 ^ 32 = xor_of_32 _ _ (xor_of_32 _ _ (xor_of_32 _ _ ha hb) hc) hd in
    let same : bit_xor (bit_xor (bit_xor a b) c) d ≡ by_tables word = λ i. bit_xor (bit_xor (bit_xor (ea i) (eb i)) (ec i)) (ed i) in
    let P : ℕ → Type 0 = λ x. x < 2 ^ 32 in
    same ∙ by_tables-mixed word (subst P same fits)
