-- The first two rounds of blocks with the same first 15 bytes.
use Rattle.std.specs.Prelude.{[]}
use Rattle.std.proofs.Common.{◌≡◌, ℕ, zero, suc, ◌+◌, ◌*◌, ◌<◌, List, ◌∷◌, ◌++◌, All, length, bit_xor, slice_index, take, refl, sym, ap, ◌∙◌, arith, lit<}
use Rattle.std.proofs.lemmas.List.{get_or-take, length-append, length-take-le, take-append-le, take_all}
use Rattle.std.proofs.lemmas.List.Elements.{All-push, All-take}
use Rattle.std.proofs.Math.Seq.{get_or-append_seam}
use Rattle.std.proofs.lemmas.Nat.{xor_comm}
use Rattle.std.specs.Int.{w32, from_be_bytes}
use Rattle.std.specs.Int.Bits.{xor_self, xor_zero_r}
use lib.Bits.{xor_assoc}
use Rattle.kr_aes.specs.Cipher.{IsBlock, add_round_key, after_rounds, column_sum, matrix_product, mix_columns, sbox, shift_rows, sub_bytes, word_byte}
use Rattle.kr_aes.specs.inner.TwoRounds.{IsBegun, begun_columns, forward_word}
use Rattle.kr_aes.specs.inner.Columns.{IsKeyed, block_of_columns, forward_byte}
use Rattle.kr_aes.proofs.Blocks.{cell-lt}
use Rattle.kr_aes.proofs.ColumnWords.{IsKeyed-xor, bytes4-lt, forward_keyed, word_byte-from_be_bytes, word_byte-xor}
use Rattle.kr_aes.proofs.Rows.{first_columns, forward_columns}

-- ---- one word of a sum for another

right_comm : (x y z : ℕ) → bit_xor (bit_xor x y) z ≡ bit_xor (bit_xor x z) y
right_comm x y z = xor_assoc x y z ∙ ap (bit_xor x) (xor_comm y z) ∙ sym (xor_assoc x z y)

-- the word put last
last_of_2 : (x r s k : ℕ) → bit_xor (bit_xor (bit_xor x r) s) k ≡ bit_xor (bit_xor (bit_xor x s) k) r
last_of_2 x r s k = ap (λ (t : ℕ). bit_xor t k) (right_comm x r s) ∙ right_comm (bit_xor x s) r k

last_of_3 : (x q r s k : ℕ) → bit_xor (bit_xor (bit_xor (bit_xor x q) r) s) k ≡ bit_xor (bit_xor (bit_xor (bit_xor x r) s) k) q
last_of_3 x q r s k = ap (λ (t : ℕ). bit_xor (bit_xor t s) k) (right_comm x q r) ∙ last_of_2 (bit_xor x r) q s k

last_of_4 : (p q r s k : ℕ) → bit_xor (bit_xor (bit_xor (bit_xor p q) r) s) k ≡ bit_xor (bit_xor (bit_xor (bit_xor q r) s) k) p
last_of_4 p q r s k = ap (λ (t : ℕ). bit_xor (bit_xor (bit_xor t r) s) k) (xor_comm p q) ∙ last_of_3 q p r s k

twice : (x u : ℕ) → bit_xor (bit_xor x u) u ≡ x
twice x u = xor_assoc x u u ∙ ap (bit_xor x) (xor_self u) ∙ xor_zero_r x

-- u is taken out of a word and v put in, where the words differ in these alone
exchanged : (t s x u v : ℕ) → t ≡ bit_xor x u → s ≡ bit_xor x v → bit_xor (bit_xor t u) v ≡ s
exchanged t s x u v et es =
    ap (λ (y : ℕ). bit_xor (bit_xor y u) v) et ∙ ap (λ (y : ℕ). bit_xor y v) (twice x u) ∙ sym es

-- the same of a word of which only the bytes are known
keyed_exchanged : (byte other : ℕ → ℕ) (key w t s x u v : ℕ)
    → IsKeyed byte key t → IsKeyed other key s → IsKeyed byte key w → t ≡ bit_xor x u → s ≡ bit_xor x v
    → IsKeyed other key (bit_xor (bit_xor w u) v)
keyed_exchanged byte other key w t s x u v ht hs hw et es row lt =
    word_byte-xor (bit_xor w u) v row
    ∙ ap (λ (y : ℕ). bit_xor y (word_byte v row)) (word_byte-xor w u row ∙ ap (λ (y : ℕ). bit_xor y (word_byte u row)) (hw row lt ∙ sym (ht row lt)) ∙ sym (word_byte-xor t u row))
    ∙ sym (word_byte-xor (bit_xor t u) v row)
    ∙ ap (λ (y : ℕ). word_byte y row) (exchanged t s x u v et es)
    ∙ hs row lt

-- ---- one of the four words of a column for another

plain_keyed : (a b c d key : ℕ) → IsKeyed (forward_byte a b c d) key
    (bit_xor (bit_xor (bit_xor (bit_xor (forward_word 0 (word_byte a 0)) (forward_word 1 (word_byte b 1))) (forward_word 2 (word_byte c 2))) (forward_word 3 (word_byte d 3))) key)
plain_keyed a b c d key = forward_keyed a b c d key _ _ _ _ refl refl refl refl

exchanged_0 : (a o b c d key w : ℕ) → IsKeyed (forward_byte a b c d) key w
    → IsKeyed (forward_byte o b c d) key (bit_xor (bit_xor w (forward_word 0 (word_byte a 0))) (forward_word 0 (word_byte o 0)))
exchanged_0 a o b c d key w h =
    keyed_exchanged (forward_byte a b c d) (forward_byte o b c d) key w _ _ _ (forward_word 0 (word_byte a 0)) (forward_word 0 (word_byte o 0))
    (plain_keyed a b c d key) (plain_keyed o b c d key) h
    (last_of_4 (forward_word 0 (word_byte a 0)) (forward_word 1 (word_byte b 1)) (forward_word 2 (word_byte c 2)) (forward_word 3 (word_byte d 3)) key)
    (last_of_4 (forward_word 0 (word_byte o 0)) (forward_word 1 (word_byte b 1)) (forward_word 2 (word_byte c 2)) (forward_word 3 (word_byte d 3)) key)

exchanged_1 : (a b o c d key w : ℕ) → IsKeyed (forward_byte a b c d) key w
    → IsKeyed (forward_byte a o c d) key (bit_xor (bit_xor w (forward_word 1 (word_byte b 1))) (forward_word 1 (word_byte o 1)))
exchanged_1 a b o c d key w h =
    keyed_exchanged (forward_byte a b c d) (forward_byte a o c d) key w _ _ _ (forward_word 1 (word_byte b 1)) (forward_word 1 (word_byte o 1))
    (plain_keyed a b c d key) (plain_keyed a o c d key) h
    (last_of_3 (forward_word 0 (word_byte a 0)) (forward_word 1 (word_byte b 1)) (forward_word 2 (word_byte c 2)) (forward_word 3 (word_byte d 3)) key)
    (last_of_3 (forward_word 0 (word_byte a 0)) (forward_word 1 (word_byte o 1)) (forward_word 2 (word_byte c 2)) (forward_word 3 (word_byte d 3)) key)

exchanged_2 : (a b c o d key w : ℕ) → IsKeyed (forward_byte a b c d) key w
    → IsKeyed (forward_byte a b o d) key (bit_xor (bit_xor w (forward_word 2 (word_byte c 2))) (forward_word 2 (word_byte o 2)))
exchanged_2 a b c o d key w h =
    keyed_exchanged (forward_byte a b c d) (forward_byte a b o d) key w _ _ _ (forward_word 2 (word_byte c 2)) (forward_word 2 (word_byte o 2))
    (plain_keyed a b c d key) (plain_keyed a b o d key) h
    (last_of_2 (bit_xor (forward_word 0 (word_byte a 0)) (forward_word 1 (word_byte b 1))) (forward_word 2 (word_byte c 2)) (forward_word 3 (word_byte d 3)) key)
    (last_of_2 (bit_xor (forward_word 0 (word_byte a 0)) (forward_word 1 (word_byte b 1))) (forward_word 2 (word_byte o 2)) (forward_word 3 (word_byte d 3)) key)

exchanged_3 : (a b c d o key w : ℕ) → IsKeyed (forward_byte a b c d) key w
    → IsKeyed (forward_byte a b c o) key (bit_xor (bit_xor w (forward_word 3 (word_byte d 3))) (forward_word 3 (word_byte o 3)))
exchanged_3 a b c d o key w h =
    let x : ℕ = bit_xor (bit_xor (forward_word 0 (word_byte a 0)) (forward_word 1 (word_byte b 1))) (forward_word 2 (word_byte c 2)) in
    keyed_exchanged (forward_byte a b c d) (forward_byte a b c o) key w _ _ _ (forward_word 3 (word_byte d 3)) (forward_word 3 (word_byte o 3))
    (plain_keyed a b c d key) (plain_keyed a b c o key) h
    (right_comm x (forward_word 3 (word_byte d 3)) key)
    (right_comm x (forward_word 3 (word_byte o 3)) key)

-- ---- the words of a block's columns, cell by cell

four_rows : (f g : ℕ → ℕ) → f 0 ≡ g 0 → f 1 ≡ g 1 → f 2 ≡ g 2 → f 3 ≡ g 3 → (row : ℕ) → row < 4 → f row ≡ g row
four_rows f g e0 e1 e2 e3 zero lt = e0
four_rows f g e0 e1 e2 e3 (suc zero) lt = e1
four_rows f g e0 e1 e2 e3 (suc (suc zero)) lt = e2
four_rows f g e0 e1 e2 e3 (suc (suc (suc zero))) lt = e3
four_rows f g e0 e1 e2 e3 (suc (suc (suc (suc row)))) lt = absurd (omega arith)

-- the columns of a round, from its block
keyed_columns : (words : List ℕ) (round a b c d p q r s : ℕ)
    → block_of_columns (p ∷ q ∷ r ∷ s ∷ []) ≡ add_round_key words round (mix_columns (shift_rows (sub_bytes (block_of_columns (a ∷ b ∷ c ∷ d ∷ [])))))
    → IsKeyed (forward_byte a b c d) (slice_index words (4 * round + 0)) p
    × (IsKeyed (forward_byte b c d a) (slice_index words (4 * round + 1)) q
    × (IsKeyed (forward_byte c d a b) (slice_index words (4 * round + 2)) r
    × IsKeyed (forward_byte d a b c) (slice_index words (4 * round + 3)) s))
unfolding add_round_key matrix_product shift_rows sub_bytes
keyed_columns words round a b c d p q r s e = (
  four_rows (λ row. word_byte p row) (λ row. bit_xor (forward_byte a b c d row) (word_byte (slice_index words (4 * round + 0)) row))
      (ap (λ (x : List ℕ). slice_index x 0) e) (ap (λ (x : List ℕ). slice_index x 1) e) (ap (λ (x : List ℕ). slice_index x 2) e) (ap (λ (x : List ℕ). slice_index x 3) e),
  (
    four_rows (λ row. word_byte q row) (λ row. bit_xor (forward_byte b c d a row) (word_byte (slice_index words (4 * round + 1)) row))
        (ap (λ (x : List ℕ). slice_index x 4) e) (ap (λ (x : List ℕ). slice_index x 5) e) (ap (λ (x : List ℕ). slice_index x 6) e) (ap (λ (x : List ℕ). slice_index x 7) e),
    (
      four_rows (λ row. word_byte r row) (λ row. bit_xor (forward_byte c d a b row) (word_byte (slice_index words (4 * round + 2)) row))
          (ap (λ (x : List ℕ). slice_index x 8) e) (ap (λ (x : List ℕ). slice_index x 9) e) (ap (λ (x : List ℕ). slice_index x 10) e) (ap (λ (x : List ℕ). slice_index x 11) e),
      four_rows (λ row. word_byte s row) (λ row. bit_xor (forward_byte d a b c row) (word_byte (slice_index words (4 * round + 3)) row))
          (ap (λ (x : List ℕ). slice_index x 12) e) (ap (λ (x : List ℕ). slice_index x 13) e) (ap (λ (x : List ℕ). slice_index x 14) e) (ap (λ (x : List ℕ). slice_index x 15) e),
    ),
  ),
)

-- a byte of the first columns, from their block
first_byte : (words block : List ℕ) (a b c d : ℕ)
    → block_of_columns (a ∷ b ∷ c ∷ d ∷ []) ≡ add_round_key words 0 block
    → IsKeyed (λ row. slice_index block row) (slice_index words 0) a
    × (IsKeyed (λ row. slice_index block (row + 4)) (slice_index words 1) b
    × (IsKeyed (λ row. slice_index block (row + 8)) (slice_index words 2) c
    × IsKeyed (λ row. slice_index block (row + 12)) (slice_index words 3) d))
unfolding add_round_key
first_byte words block a b c d e = (
  four_rows (λ row. word_byte a row) (λ row. bit_xor (slice_index block row) (word_byte (slice_index words 0) row))
      (ap (λ (x : List ℕ). slice_index x 0) e) (ap (λ (x : List ℕ). slice_index x 1) e) (ap (λ (x : List ℕ). slice_index x 2) e) (ap (λ (x : List ℕ). slice_index x 3) e),
  (
    four_rows (λ row. word_byte b row) (λ row. bit_xor (slice_index block (row + 4)) (word_byte (slice_index words 1) row))
        (ap (λ (x : List ℕ). slice_index x 4) e) (ap (λ (x : List ℕ). slice_index x 5) e) (ap (λ (x : List ℕ). slice_index x 6) e) (ap (λ (x : List ℕ). slice_index x 7) e),
    (
      four_rows (λ row. word_byte c row) (λ row. bit_xor (slice_index block (row + 8)) (word_byte (slice_index words 2) row))
          (ap (λ (x : List ℕ). slice_index x 8) e) (ap (λ (x : List ℕ). slice_index x 9) e) (ap (λ (x : List ℕ). slice_index x 10) e) (ap (λ (x : List ℕ). slice_index x 11) e),
      four_rows (λ row. word_byte d row) (λ row. bit_xor (slice_index block (row + 12)) (word_byte (slice_index words 3) row))
          (ap (λ (x : List ℕ). slice_index x 12) e) (ap (λ (x : List ℕ). slice_index x 13) e) (ap (λ (x : List ℕ). slice_index x 14) e) (ap (λ (x : List ℕ). slice_index x 15) e),
    ),
  ),
)

same_cell : (other block : List ℕ) (k : ℕ) → take 15 other ≡ take 15 block → k < 15 → slice_index block k ≡ slice_index other k
same_cell other block k same lt =
    sym (get_or-take 15 block k 0 lt) ∙ ap (λ (x : List ℕ). slice_index x k) (sym same) ∙ get_or-take 15 other k 0 lt

-- ---- both rounds

-- a column of which one word has another byte elsewhere alone
same_third : (a b c o d key w : ℕ) → word_byte c 2 ≡ word_byte o 2 → IsKeyed (forward_byte a b c d) key w → IsKeyed (forward_byte a b o d) key w
same_third a b c o d key w e h row lt =
    h row lt ∙ ap (λ (v : ℕ). bit_xor (column_sum (2 ∷ 3 ∷ 1 ∷ 1 ∷ []) (sbox (word_byte a 0) ∷ sbox (word_byte b 1) ∷ sbox v ∷ sbox (word_byte d 3) ∷ []) row 0) (word_byte key row)) e

same_second : (a b o c d key w : ℕ) → word_byte b 1 ≡ word_byte o 1 → IsKeyed (forward_byte a b c d) key w → IsKeyed (forward_byte a o c d) key w
same_second a b o c d key w e h row lt =
    h row lt ∙ ap (λ (v : ℕ). bit_xor (column_sum (2 ∷ 3 ∷ 1 ∷ 1 ∷ []) (sbox (word_byte a 0) ∷ sbox v ∷ sbox (word_byte c 2) ∷ sbox (word_byte d 3) ∷ []) row 0) (word_byte key row)) e

same_first : (a o b c d key w : ℕ) → word_byte a 0 ≡ word_byte o 0 → IsKeyed (forward_byte a b c d) key w → IsKeyed (forward_byte o b c d) key w
same_first a o b c d key w e h row lt =
    h row lt ∙ ap (λ (v : ℕ). bit_xor (column_sum (2 ∷ 3 ∷ 1 ∷ 1 ∷ []) (sbox v ∷ sbox (word_byte b 1) ∷ sbox (word_byte c 2) ∷ sbox (word_byte d 3) ∷ []) row 0) (word_byte key row)) e

-- the last column under another last byte
last_word : (words other : List ℕ) → IsBlock other → IsKeyed (λ row. slice_index other (row + 12)) (slice_index words 3)
    (bit_xor (from_be_bytes w32 (slice_index other 12 ∷ slice_index other 13 ∷ slice_index other 14 ∷ slice_index other 15 ∷ [])) (slice_index words 3))
last_word words other is row lt =
    let bytes : List ℕ = slice_index other 12 ∷ slice_index other 13 ∷ slice_index other 14 ∷ slice_index other 15 ∷ [] in
    IsKeyed-xor (slice_index bytes) (from_be_bytes w32 bytes) (slice_index words 3)
    (λ row lt. word_byte-from_be_bytes bytes refl (bytes4-lt _ _ _ _ (cell-lt other is 12) (cell-lt other is 13) (cell-lt other is 14) (cell-lt other is 15)) row) row lt
    ∙ ap (λ (x : ℕ). bit_xor x (word_byte (slice_index words 3) row))
    (four_rows (slice_index bytes) (λ row. slice_index other (row + 12)) refl refl refl refl row lt)

pub begins : (words block : List ℕ) (head : ℕ) (columns : List ℕ) (a b c d p q r s w x y z : ℕ)
    → block_of_columns (a ∷ b ∷ c ∷ d ∷ []) ≡ add_round_key words 0 block
    → block_of_columns (p ∷ q ∷ r ∷ s ∷ []) ≡ add_round_key words 1 (mix_columns (shift_rows (sub_bytes (block_of_columns (a ∷ b ∷ c ∷ d ∷ [])))))
    → block_of_columns (w ∷ x ∷ y ∷ z ∷ []) ≡ add_round_key words 2 (mix_columns (shift_rows (sub_bytes (block_of_columns (p ∷ q ∷ r ∷ s ∷ [])))))
    → head ≡ bit_xor p (forward_word 3 (word_byte d 3))
    → columns ≡ bit_xor w (forward_word 0 (word_byte p 0)) ∷ bit_xor x (forward_word 3 (word_byte p 3))
    ∷ bit_xor y (forward_word 2 (word_byte p 2)) ∷ bit_xor z (forward_word 1 (word_byte p 1)) ∷ []
    → (other : List ℕ) → IsBlock other → take 15 other ≡ take 15 block
    → block_of_columns (begun_columns words head columns (slice_index other 15)) ≡ after_rounds words other 2
unfolding after_rounds
begins words block head columns a b c d p q r s w x y z e0 e1 e2 the_head the_columns other is same =
    let o : ℕ = bit_xor (from_be_bytes w32 (slice_index other 12 ∷ slice_index other 13 ∷ slice_index other 14 ∷ slice_index other 15 ∷ [])) (slice_index words 3) in
    let at = first_byte words block a b c d e0 in
    let cell = λ (k : ℕ) (lt : k < 15). same_cell other block k same lt in
    let ho = last_word words other is in
    -- the bytes of the last column above its last are the same
    let high = λ (row : ℕ) (lt : row < 3). at.1.1.1 row (omega arith) ∙ ap (λ (v : ℕ). bit_xor v (word_byte (slice_index words 3) row)) (cell (row + 12) (omega arith)) ∙ sym (ho row (omega arith)) in
    let first : block_of_columns (a ∷ b ∷ c ∷ o ∷ []) ≡ add_round_key words 0 other = first_columns words other 0 a b c o
    (λ row lt. at.0 row lt ∙ ap (λ (v : ℕ). bit_xor v (word_byte (slice_index words 0) row)) (cell row (omega arith) ∙ four_rows (slice_index other) (slice_index (slice_index other 0 ∷ slice_index other 1 ∷ slice_index other 2 ∷ slice_index other 3 ∷ [])) refl refl refl refl row lt))
    (λ row lt. at.1.0 row lt ∙ ap (λ (v : ℕ). bit_xor v (word_byte (slice_index words 1) row)) (cell (row + 4) (omega arith) ∙ four_rows (λ row. slice_index other (row + 4)) (slice_index (slice_index other 4 ∷ slice_index other 5 ∷ slice_index other 6 ∷ slice_index other 7 ∷ [])) refl refl refl refl row lt))
    (λ row lt. at.1.1.0 row lt ∙ ap (λ (v : ℕ). bit_xor v (word_byte (slice_index words 2) row)) (cell (row + 8) (omega arith) ∙ four_rows (λ row. slice_index other (row + 8)) (slice_index (slice_index other 8 ∷ slice_index other 9 ∷ slice_index other 10 ∷ slice_index other 11 ∷ [])) refl refl refl refl row lt))
    (λ row lt. ho row lt ∙ ap (λ (v : ℕ). bit_xor v (word_byte (slice_index words 3) row)) (four_rows (λ row. slice_index other (row + 12)) (slice_index (slice_index other 12 ∷ slice_index other 13 ∷ slice_index other 14 ∷ slice_index other 15 ∷ [])) refl refl refl refl row lt)) in
    let one = keyed_columns words 1 a b c d p q r s e1 in
    let u : ℕ = bit_xor (bit_xor p (forward_word 3 (word_byte d 3))) (forward_word 3 (word_byte o 3)) in
    let second : block_of_columns (u ∷ q ∷ r ∷ s ∷ []) ≡ add_round_key words 1 (mix_columns (shift_rows (sub_bytes (block_of_columns (a ∷ b ∷ c ∷ o ∷ []))))) = forward_columns words 1 a b c o u q r s
    (exchanged_3 a b c d o (slice_index words 4) p one.0)
    (same_third b c d o a (slice_index words 5) q (high 2 (lit< tt)) one.1.0)
    (same_second c d o a b (slice_index words 6) r (high 1 (lit< tt)) one.1.1.0)
    (same_first d o a b c (slice_index words 7) s (high 0 (lit< tt)) one.1.1.1) in
    let two = keyed_columns words 2 p q r s w x y z e2 in
    let third : block_of_columns (begun_columns words head columns (slice_index other 15)) ≡ add_round_key words 2 (mix_columns (shift_rows (sub_bytes (block_of_columns (u ∷ q ∷ r ∷ s ∷ []))))) =
    rw (the_columns, the_head, sym (ho 3 (lit< tt))) (forward_columns words 2 u q r s _ _ _ _
    (exchanged_0 p u q r s (slice_index words 8) w two.0)
    (exchanged_3 q r s p u (slice_index words 9) x two.1.0)
    (exchanged_2 r s p u q (slice_index words 10) y two.1.1.0)
    (exchanged_1 s p u q r (slice_index words 11) z two.1.1.1)) in
    third ∙ ap (λ (t : List ℕ). add_round_key words 2 (mix_columns (shift_rows (sub_bytes t))))
    (second ∙ ap (λ (t : List ℕ). add_round_key words 1 (mix_columns (shift_rows (sub_bytes t)))) first)

-- ---- a block from its first 15 bytes and its last

IsBlock-last : (block : List ℕ) (last : ℕ) → IsBlock block → last < 256 → IsBlock (take 15 block ++ last ∷ [])
IsBlock-last block last is lt = record {
  size = length-append (take 15 block) (last ∷ []) ∙ ap (λ (n : ℕ). n + 1) (length-take-le 15 block (omega (arith, is.size)));
  bytes = All-push (λ (byte : ℕ). byte < 256) (take 15 block) last (All-take (λ (byte : ℕ). byte < 256) 15 block is.bytes) lt;
}

front_of_last : (block : List ℕ) (last : ℕ) → IsBlock block → take 15 (take 15 block ++ last ∷ []) ≡ take 15 block
front_of_last block last is =
    take-append-le 15 (take 15 block) (last ∷ []) (omega (arith, length-take-le 15 block (omega (arith, is.size))))
    ∙ take_all 15 (take 15 block) (omega (arith, length-take-le 15 block (omega (arith, is.size))))

last_of_last : (block : List ℕ) (last : ℕ) → IsBlock block → slice_index (take 15 block ++ last ∷ []) 15 ≡ last
last_of_last block last is =
    ap (slice_index (take 15 block ++ last ∷ [])) (sym (length-take-le 15 block (omega (arith, is.size))))
    ∙ get_or-append_seam (take 15 block) last [] 0

-- what is kept gives the columns of a block by its last byte
pub begun_for_last : (words block : List ℕ) (head : ℕ) (columns : List ℕ) (last : ℕ) → IsBegun words block head columns → last < 256
    → block_of_columns (begun_columns words head columns last) ≡ after_rounds words (take 15 block ++ last ∷ []) 2
begun_for_last words block head columns last begun lt =
    ap (λ (b : ℕ). block_of_columns (begun_columns words head columns b)) (sym (last_of_last block last begun.whole))
    ∙ begun.begins (take 15 block ++ last ∷ []) (IsBlock-last block last begun.whole lt) (front_of_last block last begun.whole)
