-- Blocks cell by cell, from the words of their columns.
use Rattle.std.proofs.Common.{◌≡◌, ℕ, ◌+◌, ◌*◌, List, [], ◌∷◌, slice_index, add-zero, lit<}
use Rattle.kr_aes.specs.Cipher.{add_round_key, mix_columns, matrix_product, sbox, shift_rows, sub_bytes}
use Rattle.kr_aes.specs.InverseCipher.{inverse_mix_columns, inverse_sbox, inverse_shift_rows, inverse_sub_bytes}
use Rattle.kr_aes.specs.inner.Columns.{IsKeyed, block_of_columns, sbox_column, forward_byte, inverse_byte}

-- blocks of the same cells
pub same16 : {x0 x1 x2 x3 x4 x5 x6 x7 x8 x9 x10 x11 x12 x13 x14 x15 y0 y1 y2 y3 y4 y5 y6 y7 y8 y9 y10 y11 y12 y13 y14 y15 : ℕ}
    → x0 ≡ y0 → x1 ≡ y1 → x2 ≡ y2 → x3 ≡ y3 → x4 ≡ y4 → x5 ≡ y5 → x6 ≡ y6 → x7 ≡ y7 → x8 ≡ y8 → x9 ≡ y9 → x10 ≡ y10 → x11 ≡ y11 → x12 ≡ y12 → x13 ≡ y13 → x14 ≡ y14 → x15 ≡ y15
    → (x0 ∷ x1 ∷ x2 ∷ x3 ∷ x4 ∷ x5 ∷ x6 ∷ x7 ∷ x8 ∷ x9 ∷ x10 ∷ x11 ∷ x12 ∷ x13 ∷ x14 ∷ x15 ∷ []) ≡ (y0 ∷ y1 ∷ y2 ∷ y3 ∷ y4 ∷ y5 ∷ y6 ∷ y7 ∷ y8 ∷ y9 ∷ y10 ∷ y11 ∷ y12 ∷ y13 ∷ y14 ∷ y15 ∷ [])
same16 p0 p1 p2 p3 p4 p5 p6 p7 p8 p9 p10 p11 p12 p13 p14 p15 = λ i. p0 i ∷ p1 i ∷ p2 i ∷ p3 i ∷ p4 i ∷ p5 i ∷ p6 i ∷ p7 i ∷ p8 i ∷ p9 i ∷ p10 i ∷ p11 i ∷ p12 i ∷ p13 i ∷ p14 i ∷ p15 i ∷ []

-- where the words have these bytes, each added to its key's, their block is this one with the keys
-- added
abbrev pub Comes : List ℕ → ℕ → ℕ → ℕ → ℕ → ℕ → (ℕ → ℕ) → (ℕ → ℕ) → (ℕ → ℕ) → (ℕ → ℕ) → List ℕ
    → Type 0
Comes words round p q r s f g h k block =
    IsKeyed f (slice_index words (4 * round)) p → IsKeyed g (slice_index words (4 * round + 1)) q
    → IsKeyed h (slice_index words (4 * round + 2)) r
    → IsKeyed k (slice_index words (4 * round + 3)) s
    → block_of_columns (p ∷ q ∷ r ∷ s ∷ []) ≡ add_round_key words round block

of_bytes : (words : List ℕ) (round p q r s : ℕ) (f g h k : ℕ → ℕ)
    → Comes words round p q r s f g h k (f 0 ∷ f 1 ∷ f 2 ∷ f 3 ∷ g 0 ∷ g 1 ∷ g 2 ∷ g 3 ∷ h 0 ∷ h 1 ∷ h 2 ∷ h 3 ∷ k 0 ∷ k 1 ∷ k 2 ∷ k 3 ∷ [])
unfolding add_round_key
of_bytes words round p q r s f g h k hp hq hr hs =
    let at : 4 * round + 0 ≡ 4 * round = add-zero (4 * round) in
    rw at (same16 (hp 0 (lit< tt)) (hp 1 (lit< tt)) (hp 2 (lit< tt)) (hp 3 (lit< tt)) (hq 0 (lit< tt)) (hq 1 (lit< tt)) (hq 2 (lit< tt)) (hq 3 (lit< tt)) (hr 0 (lit< tt)) (hr 1 (lit< tt)) (hr 2 (lit< tt)) (hr 3 (lit< tt)) (hs 0 (lit< tt)) (hs 1 (lit< tt)) (hs 2 (lit< tt)) (hs 3 (lit< tt)))

-- the columns of a round, and of the last one
pub forward_columns : (words : List ℕ) (round a b c d p q r s : ℕ)
    → Comes words round p q r s (forward_byte a b c d) (forward_byte b c d a) (forward_byte c d a b) (forward_byte d a b c) (mix_columns (shift_rows (sub_bytes (block_of_columns (a ∷ b ∷ c ∷ d ∷ [])))))
unfolding add_round_key matrix_product shift_rows sub_bytes
forward_columns words round a b c d p q r s = of_bytes words round p q r s (forward_byte a b c d) (forward_byte b c d a) (forward_byte c d a b) (forward_byte d a b c)

pub inverse_columns : (words : List ℕ) (round a b c d p q r s : ℕ)
    → Comes words round p q r s (inverse_byte a d c b) (inverse_byte b a d c) (inverse_byte c b a d) (inverse_byte d c b a) (inverse_mix_columns (inverse_shift_rows (inverse_sub_bytes (block_of_columns (a ∷ b ∷ c ∷ d ∷ [])))))
unfolding add_round_key matrix_product inverse_shift_rows inverse_sub_bytes
inverse_columns words round a b c d p q r s = of_bytes words round p q r s (inverse_byte a d c b) (inverse_byte b a d c) (inverse_byte c b a d) (inverse_byte d c b a)

pub last_forward_columns : (words : List ℕ) (round a b c d p q r s : ℕ)
    → Comes words round p q r s (slice_index (sbox_column sbox a b c d)) (slice_index (sbox_column sbox b c d a)) (slice_index (sbox_column sbox c d a b)) (slice_index (sbox_column sbox d a b c)) (shift_rows (sub_bytes (block_of_columns (a ∷ b ∷ c ∷ d ∷ []))))
unfolding add_round_key shift_rows sub_bytes
last_forward_columns words round a b c d p q r s = of_bytes words round p q r s (slice_index (sbox_column sbox a b c d)) (slice_index (sbox_column sbox b c d a)) (slice_index (sbox_column sbox c d a b)) (slice_index (sbox_column sbox d a b c))

pub last_inverse_columns : (words : List ℕ) (round a b c d p q r s : ℕ)
    → Comes words round p q r s (slice_index (sbox_column inverse_sbox a d c b)) (slice_index (sbox_column inverse_sbox b a d c)) (slice_index (sbox_column inverse_sbox c b a d)) (slice_index (sbox_column inverse_sbox d c b a)) (inverse_shift_rows (inverse_sub_bytes (block_of_columns (a ∷ b ∷ c ∷ d ∷ []))))
unfolding add_round_key inverse_shift_rows inverse_sub_bytes
last_inverse_columns words round a b c d p q r s = of_bytes words round p q r s (slice_index (sbox_column inverse_sbox a d c b)) (slice_index (sbox_column inverse_sbox b a d c)) (slice_index (sbox_column inverse_sbox c b a d)) (slice_index (sbox_column inverse_sbox d c b a))

-- the columns of a block
pub first_columns : (words block : List ℕ) (round p q r s : ℕ)
    → Comes words round p q r s (slice_index (slice_index block 0 ∷ slice_index block 1 ∷ slice_index block 2 ∷ slice_index block 3 ∷ [])) (slice_index (slice_index block 4 ∷ slice_index block 5 ∷ slice_index block 6 ∷ slice_index block 7 ∷ [])) (slice_index (slice_index block 8 ∷ slice_index block 9 ∷ slice_index block 10 ∷ slice_index block 11 ∷ [])) (slice_index (slice_index block 12 ∷ slice_index block 13 ∷ slice_index block 14 ∷ slice_index block 15 ∷ [])) block
unfolding add_round_key
first_columns words block round p q r s = of_bytes words round p q r s (slice_index (slice_index block 0 ∷ slice_index block 1 ∷ slice_index block 2 ∷ slice_index block 3 ∷ [])) (slice_index (slice_index block 4 ∷ slice_index block 5 ∷ slice_index block 6 ∷ slice_index block 7 ∷ [])) (slice_index (slice_index block 8 ∷ slice_index block 9 ∷ slice_index block 10 ∷ slice_index block 11 ∷ [])) (slice_index (slice_index block 12 ∷ slice_index block 13 ∷ slice_index block 14 ∷ slice_index block 15 ∷ []))
