-- The inverse in the field of 256 elements by way of the field of 16, and the inverse S-box by it.
use Rattle.std.proofs.Common.{◌≡◌, ℕ, ◌+◌, ◌*◌, ◌/◌, ◌%◌, ◌<◌, List, bit_xor, slice_index, refl, sym, ap, ◌∙◌, arith}
use Rattle.std.proofs.lemmas.Nat.Bits.{bit_at-lt}
use Rattle.kr_aes.specs.Cipher.{affine}
use Rattle.kr_aes.specs.Field.{inverse, polynomial_product, product, remainder}
use Rattle.kr_aes.specs.InverseCipher.{inverse_sbox}
use Rattle.kr_aes.proofs.Blocks.{affine-lt, inverse_affine}
use Rattle.kr_aes.proofs.Cases.{bytes_below, same_below}
use Rattle.kr_aes.proofs.Powers.{times_squares, times_squares-inverse}
use Rattle.kr_aes.proofs.TableCells.{inverse-inverse_affine}
use Rattle.kr_aes_bitsliced.specs.declared.nibbles.Nibbles.{Nibbles}
use Rattle.kr_aes_bitsliced.specs.inner.Nibbles.{bit_in, byte_of_pair, embedded, nibble_at, nibble_inverse, nibble_product}

pub nibble_at-lt : (a : Nibbles) (b p : ℕ) → nibble_at a b p < 16
unfolding nibble_at
nibble_at-lt a b p = omega (arith, below a.0, below a.1, below a.2, below a.3)
  where
    below : (plane : List ℕ) → bit_in plane b p < 2
    below plane = bit_at-lt (slice_index plane p) b

-- ---- the inverse S-box goes back by the affine map, and then takes the inverse

inverse_affine-affine : (b : ℕ) → b < 256 → inverse_affine (affine b) ≡ b
inverse_affine-affine = same_below 256 (λ b. inverse_affine (affine b)) (λ b. b) refl

pub inverse_sbox-affine : (b : ℕ) → b < 256 → inverse_sbox (affine b) ≡ inverse b
inverse_sbox-affine b h =
    sym (inverse-inverse_affine (affine b) (affine-lt b)) ∙ ap inverse (inverse_affine-affine b h)

-- ---- the inverse of h z + l, at each of the 16 times 16 pairs

-- the inverse of the norm, 10 h^2 + l^2 + h l
abbrev pub inverse_norm : ℕ → ℕ → ℕ
inverse_norm h l =
    nibble_inverse (bit_xor
    (bit_xor (nibble_product 10 (nibble_product h h)) (nibble_product l l))
    (nibble_product h l))

abbrev inverse_pair : ℕ → ℕ → ℕ
inverse_pair h l =
    byte_of_pair (nibble_product h (inverse_norm h l))
    (nibble_product (bit_xor h l) (inverse_norm h l))

inverse_pair-squares : (n : ℕ) → n < 256
    → inverse_pair (n / 16) (n % 16) ≡ times_squares 7 (byte_of_pair (n / 16) (n % 16)) 1
unfolding byte_of_pair embedded nibble_inverse nibble_product product polynomial_product remainder times_squares
inverse_pair-squares =
    same_below 256 (λ n. inverse_pair (n / 16) (n % 16))
    (λ n. times_squares 7 (byte_of_pair (n / 16) (n % 16)) 1) refl

byte_of_pair-numbered-lt : (n : ℕ) → n < 256 → byte_of_pair (n / 16) (n % 16) < 256
unfolding byte_of_pair embedded product polynomial_product remainder
byte_of_pair-numbered-lt = bytes_below 256 (λ n. byte_of_pair (n / 16) (n % 16)) refl

-- what holds at the two digits of each number below 256 holds at each two elements
by_digits : (P : ℕ → ℕ → Type 0) → ((n : ℕ) → n < 256 → P (n / 16) (n % 16))
    → (h l : ℕ) → h < 16 → l < 16 → P h l
by_digits P all h l h_lt l_lt =
    let n : ℕ = 16 * h + l in
    let lt : n < 256 = omega arith in
    let eh : n / 16 ≡ h = omega arith in
    let el : n % 16 ≡ l = omega arith in
    rw (eh, el) at (all n lt)

pub byte_of_pair-lt : (h l : ℕ) → h < 16 → l < 16 → byte_of_pair h l < 256
byte_of_pair-lt = by_digits (λ h l. byte_of_pair h l < 256) byte_of_pair-numbered-lt

pub inverse_pair-inverse : (h l : ℕ) → h < 16 → l < 16
    → inverse_pair h l ≡ inverse (byte_of_pair h l)
inverse_pair-inverse h l h_lt l_lt =
    let squares : inverse_pair h l ≡ times_squares 7 (byte_of_pair h l) 1 =
    by_digits (λ h l. inverse_pair h l ≡ times_squares 7 (byte_of_pair h l) 1)
    inverse_pair-squares h l h_lt l_lt in
    squares ∙ times_squares-inverse (byte_of_pair h l) (byte_of_pair-lt h l h_lt l_lt)
