-- The bytes of sums of words, and the columns that the tables make.
use Rattle.std.specs.Prelude.{get_or, []}
use Rattle.std.proofs.Common.{◌≡◌, ℕ, zero, suc, ◌/◌, ◌%◌, ◌^◌, ◌<◌, List, [], ◌∷◌, length, bit_xor, slice_index, refl, ap, ◌∙◌, arith}
use Rattle.std.proofs.lemmas.Nat.{be_bytes_4, xor_mod, xor_shr}
use Rattle.std.specs.Int.{w32, from_be_bytes}
use Rattle.kr_aes.specs.declared.tables.TheConstants.{FORWARD, INVERSE}
use Rattle.kr_aes.specs.Field.{product}
use Rattle.kr_aes.specs.Cipher.{column_sum, sbox, word_byte}
use Rattle.kr_aes.specs.InverseCipher.{inverse_sbox}
use Rattle.kr_aes.specs.inner.Columns.{IsKeyed, forward_byte, inverse_byte}
use Rattle.kr_aes.proofs.Blocks.{word_byte-lt}
use Rattle.kr_aes.proofs.Sums.{sum4, sum4-half, sum4-left, sum4-same, sum4-turned}
use Rattle.kr_aes.proofs.TableCells.{FORWARD_0-row_0, FORWARD_0-row_1, FORWARD_0-row_2, FORWARD_0-row_3, FORWARD_1-row_0, FORWARD_1-row_1, FORWARD_1-row_2, FORWARD_1-row_3, FORWARD_2-row_0, FORWARD_2-row_1, FORWARD_2-row_2, FORWARD_2-row_3, FORWARD_3-row_0, FORWARD_3-row_1, FORWARD_3-row_2, FORWARD_3-row_3, INVERSE_0-row_0, INVERSE_0-row_1, INVERSE_0-row_2, INVERSE_0-row_3, INVERSE_1-row_0, INVERSE_1-row_1, INVERSE_1-row_2, INVERSE_1-row_3, INVERSE_2-row_0, INVERSE_2-row_1, INVERSE_2-row_2, INVERSE_2-row_3, INVERSE_3-row_0, INVERSE_3-row_1, INVERSE_3-row_2, INVERSE_3-row_3}

-- a byte of a sum is the sum of the bytes
part_xor : (a b k : ℕ) → bit_xor a b / 2 ^ k % 2 ^ 8 ≡ bit_xor (a / 2 ^ k % 2 ^ 8) (b / 2 ^ k % 2 ^ 8)
part_xor a b k = ap (λ (x : ℕ). x % 2 ^ 8) (xor_shr a b k) ∙ xor_mod (a / 2 ^ k) (b / 2 ^ k) 8

pub word_byte-xor : (a b row : ℕ) → word_byte (bit_xor a b) row ≡ bit_xor (word_byte a row) (word_byte b row)
word_byte-xor a b zero = part_xor a b 24
word_byte-xor a b (suc zero) = part_xor a b 16
word_byte-xor a b (suc (suc zero)) = part_xor a b 8
word_byte-xor a b (suc (suc (suc zero))) = xor_mod a b 8
word_byte-xor a b (suc (suc (suc (suc row)))) = refl

-- the bytes of the word of four bytes
pub word_byte-from_be_bytes : (bytes : List ℕ) → length bytes ≡ 4 → ((i : ℕ) → slice_index bytes i < 256) → (row : ℕ) → word_byte (from_be_bytes w32 bytes) row ≡ slice_index bytes row
word_byte-from_be_bytes bytes size fits row = ap (λ xs. slice_index xs row) (be_bytes_4 bytes (from_be_bytes w32 bytes) size fits refl)

pub bytes4-lt : (a b c d : ℕ) → a < 256 → b < 256 → c < 256 → d < 256 → (i : ℕ) → slice_index (a ∷ b ∷ c ∷ d ∷ []) i < 256
bytes4-lt a b c d ha hb hc hd zero = ha
bytes4-lt a b c d ha hb hc hd (suc zero) = hb
bytes4-lt a b c d ha hb hc hd (suc (suc zero)) = hc
bytes4-lt a b c d ha hb hc hd (suc (suc (suc zero))) = hd
bytes4-lt a b c d ha hb hc hd (suc (suc (suc (suc i)))) = omega arith

-- a word with a key added
pub IsKeyed-xor : (byte : ℕ → ℕ) (word key : ℕ) → ((row : ℕ) → row < 4 → word_byte word row ≡ byte row) → IsKeyed byte key (bit_xor word key)
IsKeyed-xor byte word key is row lt = word_byte-xor word key row ∙ ap (λ (x : ℕ). bit_xor x (word_byte key row)) (is row lt)

-- a byte of a sum of four words
word_byte-sum4 : (a b c d row : ℕ) → word_byte (sum4 a b c d) row ≡ sum4 (word_byte a row) (word_byte b row) (word_byte c row) (word_byte d row)
unfolding sum4
word_byte-sum4 a b c d row =
    word_byte-xor (bit_xor (bit_xor a b) c) d row
    ∙ ap (λ (x : ℕ). bit_xor x (word_byte d row)) (word_byte-xor (bit_xor a b) c row ∙ ap (λ (x : ℕ). bit_xor x (word_byte c row)) (word_byte-xor a b row))

-- the sum of the four tables' words
pub forward_bytes : (x y z w : ℕ) → x < 256 → y < 256 → z < 256 → w < 256 → (row : ℕ) → row < 4
    → word_byte (bit_xor (bit_xor (bit_xor (slice_index (get_or FORWARD 0 []) x) (slice_index (get_or FORWARD 1 []) y)) (slice_index (get_or FORWARD 2 []) z)) (slice_index (get_or FORWARD 3 []) w)) row
    ≡ column_sum (2 ∷ 3 ∷ 1 ∷ 1 ∷ []) (sbox x ∷ sbox y ∷ sbox z ∷ sbox w ∷ []) row 0
unfolding sum4
forward_bytes x y z w hx hy hz hw zero lt =
    word_byte-sum4 (slice_index (get_or FORWARD 0 []) x) (slice_index (get_or FORWARD 1 []) y) (slice_index (get_or FORWARD 2 []) z) (slice_index (get_or FORWARD 3 []) w) 0
    ∙ sum4-same (FORWARD_0-row_0 x hx) (FORWARD_1-row_0 y hy) (FORWARD_2-row_0 z hz) (FORWARD_3-row_0 w hw)
forward_bytes x y z w hx hy hz hw (suc zero) lt =
    word_byte-sum4 (slice_index (get_or FORWARD 0 []) x) (slice_index (get_or FORWARD 1 []) y) (slice_index (get_or FORWARD 2 []) z) (slice_index (get_or FORWARD 3 []) w) 1
    ∙ sum4-same (FORWARD_0-row_1 x hx) (FORWARD_1-row_1 y hy) (FORWARD_2-row_1 z hz) (FORWARD_3-row_1 w hw) ∙ sum4-left (product 1 (sbox x)) (product 2 (sbox y)) (product 3 (sbox z)) (product 1 (sbox w))
forward_bytes x y z w hx hy hz hw (suc (suc zero)) lt =
    word_byte-sum4 (slice_index (get_or FORWARD 0 []) x) (slice_index (get_or FORWARD 1 []) y) (slice_index (get_or FORWARD 2 []) z) (slice_index (get_or FORWARD 3 []) w) 2
    ∙ sum4-same (FORWARD_0-row_2 x hx) (FORWARD_1-row_2 y hy) (FORWARD_2-row_2 z hz) (FORWARD_3-row_2 w hw) ∙ sum4-half (product 1 (sbox x)) (product 1 (sbox y)) (product 2 (sbox z)) (product 3 (sbox w))
forward_bytes x y z w hx hy hz hw (suc (suc (suc zero))) lt =
    word_byte-sum4 (slice_index (get_or FORWARD 0 []) x) (slice_index (get_or FORWARD 1 []) y) (slice_index (get_or FORWARD 2 []) z) (slice_index (get_or FORWARD 3 []) w) 3
    ∙ sum4-same (FORWARD_0-row_3 x hx) (FORWARD_1-row_3 y hy) (FORWARD_2-row_3 z hz) (FORWARD_3-row_3 w hw) ∙ sum4-turned (product 3 (sbox x)) (product 1 (sbox y)) (product 1 (sbox z)) (product 2 (sbox w))
forward_bytes x y z w hx hy hz hw (suc (suc (suc (suc row)))) lt = absurd (omega arith)

-- the sum of the four tables' words
pub inverse_bytes : (x y z w : ℕ) → x < 256 → y < 256 → z < 256 → w < 256 → (row : ℕ) → row < 4
    → word_byte (bit_xor (bit_xor (bit_xor (slice_index (get_or INVERSE 0 []) x) (slice_index (get_or INVERSE 1 []) y)) (slice_index (get_or INVERSE 2 []) z)) (slice_index (get_or INVERSE 3 []) w)) row
    ≡ column_sum (0xe ∷ 0xb ∷ 0xd ∷ 0x9 ∷ []) (inverse_sbox x ∷ inverse_sbox y ∷ inverse_sbox z ∷ inverse_sbox w ∷ []) row 0
unfolding sum4
inverse_bytes x y z w hx hy hz hw zero lt =
    word_byte-sum4 (slice_index (get_or INVERSE 0 []) x) (slice_index (get_or INVERSE 1 []) y) (slice_index (get_or INVERSE 2 []) z) (slice_index (get_or INVERSE 3 []) w) 0
    ∙ sum4-same (INVERSE_0-row_0 x hx) (INVERSE_1-row_0 y hy) (INVERSE_2-row_0 z hz) (INVERSE_3-row_0 w hw)
inverse_bytes x y z w hx hy hz hw (suc zero) lt =
    word_byte-sum4 (slice_index (get_or INVERSE 0 []) x) (slice_index (get_or INVERSE 1 []) y) (slice_index (get_or INVERSE 2 []) z) (slice_index (get_or INVERSE 3 []) w) 1
    ∙ sum4-same (INVERSE_0-row_1 x hx) (INVERSE_1-row_1 y hy) (INVERSE_2-row_1 z hz) (INVERSE_3-row_1 w hw) ∙ sum4-left (product 9 (inverse_sbox x)) (product 14 (inverse_sbox y)) (product 11 (inverse_sbox z)) (product 13 (inverse_sbox w))
inverse_bytes x y z w hx hy hz hw (suc (suc zero)) lt =
    word_byte-sum4 (slice_index (get_or INVERSE 0 []) x) (slice_index (get_or INVERSE 1 []) y) (slice_index (get_or INVERSE 2 []) z) (slice_index (get_or INVERSE 3 []) w) 2
    ∙ sum4-same (INVERSE_0-row_2 x hx) (INVERSE_1-row_2 y hy) (INVERSE_2-row_2 z hz) (INVERSE_3-row_2 w hw) ∙ sum4-half (product 13 (inverse_sbox x)) (product 9 (inverse_sbox y)) (product 14 (inverse_sbox z)) (product 11 (inverse_sbox w))
inverse_bytes x y z w hx hy hz hw (suc (suc (suc zero))) lt =
    word_byte-sum4 (slice_index (get_or INVERSE 0 []) x) (slice_index (get_or INVERSE 1 []) y) (slice_index (get_or INVERSE 2 []) z) (slice_index (get_or INVERSE 3 []) w) 3
    ∙ sum4-same (INVERSE_0-row_3 x hx) (INVERSE_1-row_3 y hy) (INVERSE_2-row_3 z hz) (INVERSE_3-row_3 w hw) ∙ sum4-turned (product 11 (inverse_sbox x)) (product 13 (inverse_sbox y)) (product 9 (inverse_sbox z)) (product 14 (inverse_sbox w))
inverse_bytes x y z w hx hy hz hw (suc (suc (suc (suc row)))) lt = absurd (omega arith)

-- from the cells that were read
pub forward_keyed : (a b c d key p q r s : ℕ)
    → p ≡ slice_index (get_or FORWARD 0 []) (word_byte a 0) → q ≡ slice_index (get_or FORWARD 1 []) (word_byte b 1) → r ≡ slice_index (get_or FORWARD 2 []) (word_byte c 2) → s ≡ slice_index (get_or FORWARD 3 []) (word_byte d 3)
    → IsKeyed (forward_byte a b c d) key (bit_xor (bit_xor (bit_xor (bit_xor p q) r) s) key)
forward_keyed a b c d key p q r s ep eq er es row lt =
    (λ i. word_byte (bit_xor (bit_xor (bit_xor (bit_xor (ep i) (eq i)) (er i)) (es i)) key) row)
    ∙ IsKeyed-xor (forward_byte a b c d) (bit_xor (bit_xor (bit_xor (slice_index (get_or FORWARD 0 []) (word_byte a 0)) (slice_index (get_or FORWARD 1 []) (word_byte b 1))) (slice_index (get_or FORWARD 2 []) (word_byte c 2))) (slice_index (get_or FORWARD 3 []) (word_byte d 3))) key
    (forward_bytes (word_byte a 0) (word_byte b 1) (word_byte c 2) (word_byte d 3) (word_byte-lt a 0) (word_byte-lt b 1) (word_byte-lt c 2) (word_byte-lt d 3)) row lt

-- from the cells that were read
pub inverse_keyed : (a b c d key p q r s : ℕ)
    → p ≡ slice_index (get_or INVERSE 0 []) (word_byte a 0) → q ≡ slice_index (get_or INVERSE 1 []) (word_byte b 1) → r ≡ slice_index (get_or INVERSE 2 []) (word_byte c 2) → s ≡ slice_index (get_or INVERSE 3 []) (word_byte d 3)
    → IsKeyed (inverse_byte a b c d) key (bit_xor (bit_xor (bit_xor (bit_xor p q) r) s) key)
inverse_keyed a b c d key p q r s ep eq er es row lt =
    (λ i. word_byte (bit_xor (bit_xor (bit_xor (bit_xor (ep i) (eq i)) (er i)) (es i)) key) row)
    ∙ IsKeyed-xor (inverse_byte a b c d) (bit_xor (bit_xor (bit_xor (slice_index (get_or INVERSE 0 []) (word_byte a 0)) (slice_index (get_or INVERSE 1 []) (word_byte b 1))) (slice_index (get_or INVERSE 2 []) (word_byte c 2))) (slice_index (get_or INVERSE 3 []) (word_byte d 3))) key
    (inverse_bytes (word_byte a 0) (word_byte b 1) (word_byte c 2) (word_byte d 3) (word_byte-lt a 0) (word_byte-lt b 1) (word_byte-lt c 2) (word_byte-lt d 3)) row lt
