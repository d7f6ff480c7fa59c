-- Blocks as numbers, the first byte the lowest.
use Rattle.std.specs.Prelude.{[]}
use Rattle.std.proofs.Common.{◌≡◌, ℕ, zero, suc, ◌+◌, ◌*◌, ◌-◌, ◌/◌, ◌%◌, ◌^◌, ◌<◌, List, ◌∷◌, length, map, bit_xor, slice_index, refl, sym, ap, ◌∙◌, arith}
use Rattle.std.proofs.lemmas.List.{ext_get_or, get_or-map}
use Rattle.std.proofs.lemmas.List.Elements.{All-from_get_or}
use Rattle.std.proofs.lemmas.List.FromFn.{get_or-map-range_with_len}
use Rattle.std.proofs.lemmas.Nat.{mod_below, shr-shr, xor_lt}
use Rattle.std.proofs.lemmas.Nat.Bits.{bit_at-lt, bit_at-suc, bit_at_cat_low, bit_at_xor, same_from_bits_below}
use Rattle.std.specs.Int.{w128, bit_at, from_be_bytes, from_le_bytes, reverse_bits, to_be_bytes, to_le_bytes}
use Rattle.std.specs.Int.Bits.{xor_self, xor_zero_l, xor_zero_r}
use Rattle.std.specs.List.{range_with_len}
use Rattle.kr_aes.specs.Cipher.{IsBlock}
use Rattle.kr_aes.proofs.Blocks.{cell-lt}
use Rattle.kr_aes.proofs.Cases.{same_below}
use Rattle.kr_aes.proofs.Linear.{one_times, zero_times}
use Rattle.kr_modes.specs.Ghash.{polynomial_block, polynomial}
use Rattle.kr_modes.specs.inner.Tables.{four_terms, polynomial_of, times_x, turned}
use Rattle.kr_modes.proofs.BlockBits.{bit_of_byte, bit_of_polynomial, polynomial_block-polynomial, byte_at-lt, high_first, joined_bit, joined_low_16, low_byte, reversed-lt, reversed_bit}
use Rattle.kr_modes.proofs.Groups.{bit_of_group, byte_of_factor}
use Rattle.kr_modes.proofs.Remainders.{remainder-shifted}

pub IsBlock-number : (n : ℕ) → IsBlock (to_le_bytes w128 n)
IsBlock-number n = record {
  size = refl;
  bytes = All-from_get_or (λ byte. byte < 256) (to_le_bytes w128 n) 0
      (λ k lt. rw (byte_of_factor n k (omega (arith, lt))) (mod_below (n / 2 ^ (8 * k)) 256 (omega arith)));
}

IsBlock-high : (n : ℕ) → IsBlock (to_be_bytes w128 n)
IsBlock-high n = record {
  size = refl;
  bytes = All-from_get_or (λ byte. byte < 256) (to_be_bytes w128 n) 0
      (λ k lt. rw (high_first 16 n k (omega (arith, lt))) (byte_at-lt (16 - 1 - k) n));
}

pub polynomial-lt : (block : List ℕ) → polynomial block < 2 ^ 128
unfolding polynomial
polynomial-lt block = reversed-lt 128 0 (from_be_bytes w128 block) 0 (omega arith)

polynomial_of-lt : (n : ℕ) → polynomial_of n < 2 ^ 128
unfolding polynomial_of
polynomial_of-lt n = polynomial-lt (to_le_bytes w128 n)

-- the bits of a byte change places
pub bit_of_number : (n i : ℕ) → i < 128 → bit_at (polynomial_of n) i ≡ bit_at n (8 * (i / 8) + (7 - i % 8))
unfolding polynomial_of
bit_of_number n i lt =
    bit_of_polynomial (to_le_bytes w128 n) i (IsBlock-number n) lt
    ∙ ap (λ (x : ℕ). bit_at x (7 - i % 8)) (byte_of_factor n (i / 8) (omega arith))
    ∙ low_byte (n / 2 ^ (8 * (i / 8))) (7 - i % 8) (omega arith)
    ∙ ap (λ (x : ℕ). x % 2) (shr-shr n (8 * (i / 8)) (7 - i % 8))

-- the polynomial of a sum
pub polynomial_of-xor : (a b : ℕ) → polynomial_of (bit_xor a b) ≡ bit_xor (polynomial_of a) (polynomial_of b)
polynomial_of-xor a b = same_from_bits_below 128 (polynomial_of (bit_xor a b)) (bit_xor (polynomial_of a) (polynomial_of b))
    (polynomial_of-lt (bit_xor a b)) (xor_lt 128 (polynomial_of a) (polynomial_of b) (polynomial_of-lt a) (polynomial_of-lt b))
    (λ i lt.
    bit_of_number (bit_xor a b) i lt
    ∙ bit_at_xor a b (8 * (i / 8) + (7 - i % 8))
    ∙ (λ t. (sym (bit_of_number a i lt) t + sym (bit_of_number b i lt) t) % 2)
    ∙ sym (bit_at_xor (polynomial_of a) (polynomial_of b) i))

pub polynomial_of_none : polynomial_of 0 ≡ 0
polynomial_of_none = sym (ap polynomial_of (xor_self 0)) ∙ polynomial_of-xor 0 0 ∙ xor_self (polynomial_of 0)

-- a block's bytes from its number
byte_of_number : (block : List ℕ) (i : ℕ) → IsBlock block → i < 16
    → from_le_bytes w128 block / 2 ^ (8 * i) % 256 ≡ slice_index block i
byte_of_number block i is lt =
    let n : ℕ = from_le_bytes w128 block in
    same_from_bits_below 8 (n / 2 ^ (8 * i) % 256) (slice_index block i)
    (mod_below (n / 2 ^ (8 * i)) 256 (omega arith)) (cell-lt block is i)
    (λ j less.
    let place : 15 - (16 - 1 - (8 * i + j) / 8) ≡ i = omega arith in
    let bit : (8 * i + j) % 8 ≡ j = omega arith in
    low_byte (n / 2 ^ (8 * i)) j less
    ∙ ap (λ (x : ℕ). x % 2) (shr-shr n (8 * i) j)
    ∙ ap (λ (x : ℕ). bit_at x (8 * i + j)) (joined_low_16 block)
    ∙ joined_bit 16 (λ k. slice_index block (15 - k)) (λ k. cell-lt block is (15 - k)) (8 * i + j) (omega arith)
    ∙ (λ k. bit_at (slice_index block (place k)) (bit k)))

pub polynomial_of_block : (block : List ℕ) → IsBlock block → polynomial_of (from_le_bytes w128 block) ≡ polynomial block
unfolding polynomial_of
polynomial_of_block block is =
    let n : ℕ = from_le_bytes w128 block in
    let size : length block ≡ 16 = is.size in
    ap polynomial (ext_get_or 0 (to_le_bytes w128 n) block (sym size)
    (λ k lt. byte_of_factor n k (omega (arith, lt)) ∙ byte_of_number block k is (omega (arith, lt))))

-- the number whose bytes are a block's in the other order
pub turned_bytes : (p : ℕ) → polynomial (to_be_bytes w128 p) ≡ reverse_bits w128 p
turned_bytes p = same_from_bits_below 128 (polynomial (to_be_bytes w128 p)) (reverse_bits w128 p)
    (polynomial-lt (to_be_bytes w128 p)) (reversed-lt 128 0 p 0 (omega arith))
    (λ i lt.
    let place : 8 * (16 - 1 - i / 8) + (7 - i % 8) ≡ 128 - 1 - i = omega arith in
    bit_of_polynomial (to_be_bytes w128 p) i (IsBlock-high p) lt
    ∙ ap (λ (x : ℕ). bit_at x (7 - i % 8)) (high_first 16 p (i / 8) (omega arith))
    ∙ bit_of_byte (16 - 1 - i / 8) p (7 - i % 8) (omega arith)
    ∙ ap (bit_at p) place
    ∙ sym (reversed_bit 128 p 0 i lt))

-- the block of a number's polynomial
pub block_of_number : (n : ℕ) → to_le_bytes w128 n ≡ polynomial_block (polynomial_of n)
unfolding polynomial_of
block_of_number n = sym (polynomial_block-polynomial (to_le_bytes w128 n) (IsBlock-number n))

-- ---- half bytes

turned_bit : (x k : ℕ) → k < 4 → bit_at (turned x) k ≡ bit_at x (3 - k)
turned_bit x (suc (suc (suc (suc k)))) lt = absurd (omega arith)
turned_bit x other lt = omega (arith, bit_at-lt x 0, bit_at-lt x 1, bit_at-lt x 2, bit_at-lt x 3)

turned-lt : (x : ℕ) → turned x < 16
turned-lt x = omega (arith, bit_at-lt x 0, bit_at-lt x 1, bit_at-lt x 2, bit_at-lt x 3)

-- four bits of a number are four coefficients of its polynomial, turned
pub turned_group : (a s t x : ℕ) → t + 3 < 128 → ((k : ℕ) → k < 4 → 8 * ((t + k) / 8) + (7 - (t + k) % 8) ≡ s + (3 - k))
    → x ≡ a / 2 ^ s % 16 → turned x ≡ polynomial_of a / 2 ^ t % 16
turned_group a s t x within places is =
    same_from_bits_below 4 (turned x) (polynomial_of a / 2 ^ t % 16) (turned-lt x) (mod_below (polynomial_of a / 2 ^ t) 16 (omega arith))
    (λ k lt.
    turned_bit x k lt
    ∙ ap (λ (y : ℕ). bit_at y (3 - k)) is
    ∙ bit_of_group a s (3 - k) (omega arith)
    ∙ ap (bit_at a) (sym (places k lt))
    ∙ sym (bit_of_number a (t + k) (omega arith))
    ∙ sym (bit_of_group (polynomial_of a) t k lt))

-- ---- a table

products_are : (p q r s : ℕ) → q ≡ times_x p → r ≡ times_x q → s ≡ times_x r
    → 0 ∷ s ∷ r ∷ bit_xor r s ∷ q ∷ bit_xor q s ∷ bit_xor q r ∷ bit_xor q (bit_xor r s)
    ∷ p ∷ bit_xor p s ∷ bit_xor p r ∷ bit_xor p (bit_xor r s)
    ∷ bit_xor p q ∷ bit_xor (bit_xor p q) s ∷ bit_xor (bit_xor p q) r ∷ bit_xor (bit_xor p q) (bit_xor r s) ∷ []
    ≡ map (λ v. four_terms (turned v) p) (range_with_len 0 16)
unfolding four_terms
products_are p q r s eq er es =
    rw (es, er, eq) (simp (zero_times, one_times, xor_zero_l, xor_zero_r))

entries : (a b c d : ℕ) → List ℕ
entries a b c d = 0 ∷ d ∷ c ∷ bit_xor c d ∷ b ∷ bit_xor b d ∷ bit_xor b c ∷ bit_xor b (bit_xor c d)
    ∷ a ∷ bit_xor a d ∷ bit_xor a c ∷ bit_xor a (bit_xor c d)
    ∷ bit_xor a b ∷ bit_xor (bit_xor a b) d ∷ bit_xor (bit_xor a b) c ∷ bit_xor (bit_xor a b) (bit_xor c d) ∷ []

pub multiples_are : (a b c d p q r s : ℕ) → polynomial_of a ≡ p → polynomial_of b ≡ q → polynomial_of c ≡ r → polynomial_of d ≡ s
    → q ≡ times_x p → r ≡ times_x q → s ≡ times_x r
    → (v : ℕ) → v < 16 → polynomial_of (slice_index (0 ∷ d ∷ c ∷ bit_xor c d ∷ b ∷ bit_xor b d ∷ bit_xor b c ∷ bit_xor b (bit_xor c d)
    ∷ a ∷ bit_xor a d ∷ bit_xor a c ∷ bit_xor a (bit_xor c d)
    ∷ bit_xor a b ∷ bit_xor (bit_xor a b) d ∷ bit_xor (bit_xor a b) c ∷ bit_xor (bit_xor a b) (bit_xor c d) ∷ []) v) ≡ four_terms (turned v) p
unfolding entries
multiples_are a b c d p q r s ea eb ec ed eq er es v lt =
    let sum = λ (x y m n : ℕ) (f : polynomial_of x ≡ m) (g : polynomial_of y ≡ n). polynomial_of-xor x y ∙ (λ i. bit_xor (f i) (g i)) in
    let cd = sum c d r s ec ed in
    let ab = sum a b p q ea eb in
    let bd = sum b d q s eb ed in
    let bc = sum b c q r eb ec in
    let bcd = sum b (bit_xor c d) q (bit_xor r s) eb cd in
    let ad = sum a d p s ea ed in
    let ac = sum a c p r ea ec in
    let acd = sum a (bit_xor c d) p (bit_xor r s) ea cd in
    let abd = sum (bit_xor a b) d (bit_xor p q) s ab ed in
    let abc = sum (bit_xor a b) c (bit_xor p q) r ab ec in
    let abcd = sum (bit_xor a b) (bit_xor c d) (bit_xor p q) (bit_xor r s) ab cd in
    let all : map polynomial_of (entries a b c d) ≡ entries p q r s =
    λ i. polynomial_of_none i ∷ ed i ∷ ec i ∷ cd i ∷ eb i ∷ bd i ∷ bc i ∷ bcd i ∷ ea i ∷ ad i ∷ ac i ∷ acd i ∷ ab i ∷ abd i ∷ abc i ∷ abcd i ∷ [] in
    sym (get_or-map polynomial_of (entries a b c d) v 0 0 lt)
    ∙ ap (λ (xs : List ℕ). slice_index xs v) (all ∙ products_are p q r s eq er es)
    ∙ get_or-map-range_with_len (λ v. four_terms (turned v) p) 0 16 v v 0 lt (omega arith)

-- ---- x times a polynomial whose first coefficient is the highest bit

-- the modulus without its x^128
low_terms : (b i : ℕ) → b < 2 → i < 128 → bit_at (b * (0xe1 * 2 ^ 120)) (127 - i) ≡ bit_at (b * 135) i
low_terms zero i two lt = same_below 128 (λ i. bit_at (0 * (0xe1 * 2 ^ 120)) (127 - i)) (λ i. bit_at (0 * 135) i) refl i lt
low_terms (suc zero) i two lt = same_below 128 (λ i. bit_at (1 * (0xe1 * 2 ^ 120)) (127 - i)) (λ i. bit_at (1 * 135) i) refl i lt
low_terms (suc (suc b)) i two lt = absurd (omega arith)

moved_bit : (w i : ℕ) → w < 2 ^ 128 → i < 128 → bit_at (w / 2) (127 - i) ≡ bit_at (reverse_bits w128 w * 2 % 2 ^ 128) i
moved_bit w zero fits lt = omega (arith, fits)
moved_bit w (suc k) fits lt =
    let p : ℕ = reverse_bits w128 w in
    let up : suc (127 - suc k) ≡ 128 - 1 - k = omega arith in
    let half : p * 2 % 2 ^ 128 / 2 ≡ p % 2 ^ 127 = omega arith in
    let split : p / 2 ^ 127 * 2 ^ 127 + p % 2 ^ 127 ≡ p = omega arith in
    sym (bit_at-suc w (127 - suc k)) ∙ ap (bit_at w) up ∙ sym (reversed_bit 128 w 0 k (omega arith))
    ∙ sym (ap (λ (x : ℕ). bit_at x k) split) ∙ bit_at_cat_low (p / 2 ^ 127) 127 (p % 2 ^ 127) k (omega arith)
    ∙ sym (ap (λ (x : ℕ). bit_at x k) half) ∙ sym (bit_at-suc (p * 2 % 2 ^ 128) k)

pub shifted_turned : (w : ℕ) → w < 2 ^ 128 → reverse_bits w128 (bit_xor (w / 2) (w % 2 * (0xe1 * 2 ^ 120))) ≡ times_x (reverse_bits w128 w)
shifted_turned w fits =
    let p : ℕ = reverse_bits w128 w in
    let low : p < 2 ^ 128 = reversed-lt 128 0 w 0 (omega arith) in
    let x : ℕ = bit_xor (w / 2) (w % 2 * (0xe1 * 2 ^ 120)) in
    let last : bit_at p 127 ≡ bit_at w 0 = reversed_bit 128 w 0 127 (omega arith) in
    let top : w % 2 ≡ p / 2 ^ 127 = omega (arith, low, last) in
    same_from_bits_below 128 (reverse_bits w128 x) (bit_xor (p * 2 % 2 ^ 128) (p / 2 ^ 127 * 135))
    (reversed-lt 128 0 x 0 (omega arith)) (xor_lt 128 (p * 2 % 2 ^ 128) (p / 2 ^ 127 * 135) (mod_below (p * 2) (2 ^ 128) (omega arith)) (omega (arith, low)))
    (λ i lt.
    let place : 128 - 1 - i ≡ 127 - i = omega arith in
    reversed_bit 128 x 0 i lt
    ∙ ap (bit_at x) place
    ∙ bit_at_xor (w / 2) (w % 2 * (0xe1 * 2 ^ 120)) (127 - i)
    ∙ (λ t. (moved_bit w i fits lt t + (low_terms (w % 2) i (omega arith) lt ∙ ap (λ (b : ℕ). bit_at (b * 135) i) top) t) % 2)
    ∙ sym (bit_at_xor (p * 2 % 2 ^ 128) (p / 2 ^ 127 * 135) i))
    ∙ remainder-shifted p low
