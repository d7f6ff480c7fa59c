-- Each table is what the definition says, cell by cell.
use Rattle.std.specs.Prelude.{get_or, []}
use Rattle.std.proofs.Common.{◌≡◌, ℕ, ◌<◌, slice_index, refl, sym, ap, ◌∙◌, eq-eqb, unwrap_or, ◌==◌, arith}
use Rattle.std.proofs.lemmas.Bool.Decides.{Decides-eqb}
use Rattle.kr_aes.specs.declared.tables.TheConstants.{POWERS_OF_X, SBOX, INVERSE_SBOX, FORWARD, INVERSE}
use Rattle.kr_aes.specs.Field.{inverse, polynomial_product, product, remainder}
use Rattle.kr_aes.specs.Cipher.{affine, sbox, word_byte}
use Rattle.kr_aes.specs.InverseCipher.{inverse_sbox}
use Rattle.kr_aes.specs.KeyExpansion.{power_of_x}
use Rattle.kr_aes.proofs.Blocks.{inverse_affine, inverse_affine-lt, sbox-lt}
use Rattle.kr_aes.proofs.Cases.{bytes_below, same_below}
use Rattle.kr_aes.proofs.Powers.{times_squares, times_squares-inverse}
use Rattle.kr_aes.proofs.Search.{find_one}

pub POWERS_OF_X-power_of_x : (n : ℕ) → n < 15 → slice_index POWERS_OF_X n ≡ power_of_x n
unfolding power_of_x product polynomial_product remainder
POWERS_OF_X-power_of_x = same_below 15 (slice_index POWERS_OF_X) power_of_x refl

-- ---- the S-box and back

SBOX-affine : (b : ℕ) → b < 256 → slice_index SBOX b ≡ affine (times_squares 7 b 1)
unfolding product polynomial_product remainder times_squares
SBOX-affine = same_below 256 (slice_index SBOX) (λ b. affine (times_squares 7 b 1)) refl

pub SBOX-sbox : (b : ℕ) → b < 256 → slice_index SBOX b ≡ sbox b
unfolding sbox
SBOX-sbox b h = SBOX-affine b h ∙ ap affine (times_squares-inverse b h)

SBOX-INVERSE_SBOX : (b : ℕ) → b < 256 → slice_index SBOX (slice_index INVERSE_SBOX b) ≡ b
SBOX-INVERSE_SBOX = same_below 256 (λ b. slice_index SBOX (slice_index INVERSE_SBOX b)) (λ b. b) refl

INVERSE_SBOX-SBOX : (b : ℕ) → b < 256 → slice_index INVERSE_SBOX (slice_index SBOX b) ≡ b
INVERSE_SBOX-SBOX = same_below 256 (λ b. slice_index INVERSE_SBOX (slice_index SBOX b)) (λ b. b) refl

INVERSE_SBOX-lt : (b : ℕ) → b < 256 → slice_index INVERSE_SBOX b < 256
INVERSE_SBOX-lt = bytes_below 256 (slice_index INVERSE_SBOX) refl

pub INVERSE_SBOX-inverse_sbox : (b : ℕ) → b < 256 → slice_index INVERSE_SBOX b ≡ inverse_sbox b
unfolding inverse_sbox
INVERSE_SBOX-inverse_sbox b h =
    let c : ℕ = slice_index INVERSE_SBOX b in
    let is : sbox c ≡ b = sym (SBOX-sbox c (INVERSE_SBOX-lt b h)) ∙ SBOX-INVERSE_SBOX b h in
    sym (ap (λ o. unwrap_or o 0) (find_one (λ k. sbox k == b) 0 256 c (omega arith) (INVERSE_SBOX-lt b h) (eq-eqb (sbox c) b is)
    (λ k le lt test. sym (INVERSE_SBOX-SBOX k lt) ∙ ap (slice_index INVERSE_SBOX) (SBOX-sbox k lt ∙ (Decides-eqb (sbox k) b).0 test))))

pub inverse_sbox-sbox : (b : ℕ) → b < 256 → inverse_sbox (sbox b) ≡ b
inverse_sbox-sbox b h =
    sym (INVERSE_SBOX-inverse_sbox (sbox b) (sbox-lt b)) ∙ ap (slice_index INVERSE_SBOX) (sym (SBOX-sbox b h)) ∙ INVERSE_SBOX-SBOX b h

-- the inverse of the inverse affine map's value
INVERSE_SBOX-squares : (b : ℕ) → b < 256 → slice_index INVERSE_SBOX b ≡ times_squares 7 (inverse_affine b) 1
unfolding product polynomial_product remainder times_squares
INVERSE_SBOX-squares = same_below 256 (slice_index INVERSE_SBOX) (λ b. times_squares 7 (inverse_affine b) 1) refl

pub inverse-inverse_affine : (b : ℕ) → b < 256 → inverse (inverse_affine b) ≡ inverse_sbox b
inverse-inverse_affine b h =
    sym (times_squares-inverse (inverse_affine b) (inverse_affine-lt b)) ∙ sym (INVERSE_SBOX-squares b h) ∙ INVERSE_SBOX-inverse_sbox b h

-- ---- the rows of a round's tables

pub FORWARD_0-row_0 : (b : ℕ) → b < 256 → word_byte (slice_index (get_or FORWARD 0 []) b) 0 ≡ product 2 (sbox b)
unfolding product polynomial_product remainder
FORWARD_0-row_0 b h = same_below 256 (λ b. word_byte (slice_index (get_or FORWARD 0 []) b) 0) (λ b. product 2 (slice_index SBOX b)) refl b h ∙ ap (product 2) (SBOX-sbox b h)

pub FORWARD_0-row_1 : (b : ℕ) → b < 256 → word_byte (slice_index (get_or FORWARD 0 []) b) 1 ≡ product 1 (sbox b)
unfolding product polynomial_product remainder
FORWARD_0-row_1 b h = same_below 256 (λ b. word_byte (slice_index (get_or FORWARD 0 []) b) 1) (λ b. product 1 (slice_index SBOX b)) refl b h ∙ ap (product 1) (SBOX-sbox b h)

pub FORWARD_0-row_2 : (b : ℕ) → b < 256 → word_byte (slice_index (get_or FORWARD 0 []) b) 2 ≡ product 1 (sbox b)
unfolding product polynomial_product remainder
FORWARD_0-row_2 b h = same_below 256 (λ b. word_byte (slice_index (get_or FORWARD 0 []) b) 2) (λ b. product 1 (slice_index SBOX b)) refl b h ∙ ap (product 1) (SBOX-sbox b h)

pub FORWARD_0-row_3 : (b : ℕ) → b < 256 → word_byte (slice_index (get_or FORWARD 0 []) b) 3 ≡ product 3 (sbox b)
unfolding product polynomial_product remainder
FORWARD_0-row_3 b h = same_below 256 (λ b. word_byte (slice_index (get_or FORWARD 0 []) b) 3) (λ b. product 3 (slice_index SBOX b)) refl b h ∙ ap (product 3) (SBOX-sbox b h)

pub FORWARD_1-row_0 : (b : ℕ) → b < 256 → word_byte (slice_index (get_or FORWARD 1 []) b) 0 ≡ product 3 (sbox b)
unfolding product polynomial_product remainder
FORWARD_1-row_0 b h = same_below 256 (λ b. word_byte (slice_index (get_or FORWARD 1 []) b) 0) (λ b. product 3 (slice_index SBOX b)) refl b h ∙ ap (product 3) (SBOX-sbox b h)

pub FORWARD_1-row_1 : (b : ℕ) → b < 256 → word_byte (slice_index (get_or FORWARD 1 []) b) 1 ≡ product 2 (sbox b)
unfolding product polynomial_product remainder
FORWARD_1-row_1 b h = same_below 256 (λ b. word_byte (slice_index (get_or FORWARD 1 []) b) 1) (λ b. product 2 (slice_index SBOX b)) refl b h ∙ ap (product 2) (SBOX-sbox b h)

pub FORWARD_1-row_2 : (b : ℕ) → b < 256 → word_byte (slice_index (get_or FORWARD 1 []) b) 2 ≡ product 1 (sbox b)
unfolding product polynomial_product remainder
FORWARD_1-row_2 b h = same_below 256 (λ b. word_byte (slice_index (get_or FORWARD 1 []) b) 2) (λ b. product 1 (slice_index SBOX b)) refl b h ∙ ap (product 1) (SBOX-sbox b h)

pub FORWARD_1-row_3 : (b : ℕ) → b < 256 → word_byte (slice_index (get_or FORWARD 1 []) b) 3 ≡ product 1 (sbox b)
unfolding product polynomial_product remainder
FORWARD_1-row_3 b h = same_below 256 (λ b. word_byte (slice_index (get_or FORWARD 1 []) b) 3) (λ b. product 1 (slice_index SBOX b)) refl b h ∙ ap (product 1) (SBOX-sbox b h)

pub FORWARD_2-row_0 : (b : ℕ) → b < 256 → word_byte (slice_index (get_or FORWARD 2 []) b) 0 ≡ product 1 (sbox b)
unfolding product polynomial_product remainder
FORWARD_2-row_0 b h = same_below 256 (λ b. word_byte (slice_index (get_or FORWARD 2 []) b) 0) (λ b. product 1 (slice_index SBOX b)) refl b h ∙ ap (product 1) (SBOX-sbox b h)

pub FORWARD_2-row_1 : (b : ℕ) → b < 256 → word_byte (slice_index (get_or FORWARD 2 []) b) 1 ≡ product 3 (sbox b)
unfolding product polynomial_product remainder
FORWARD_2-row_1 b h = same_below 256 (λ b. word_byte (slice_index (get_or FORWARD 2 []) b) 1) (λ b. product 3 (slice_index SBOX b)) refl b h ∙ ap (product 3) (SBOX-sbox b h)

pub FORWARD_2-row_2 : (b : ℕ) → b < 256 → word_byte (slice_index (get_or FORWARD 2 []) b) 2 ≡ product 2 (sbox b)
unfolding product polynomial_product remainder
FORWARD_2-row_2 b h = same_below 256 (λ b. word_byte (slice_index (get_or FORWARD 2 []) b) 2) (λ b. product 2 (slice_index SBOX b)) refl b h ∙ ap (product 2) (SBOX-sbox b h)

pub FORWARD_2-row_3 : (b : ℕ) → b < 256 → word_byte (slice_index (get_or FORWARD 2 []) b) 3 ≡ product 1 (sbox b)
unfolding product polynomial_product remainder
FORWARD_2-row_3 b h = same_below 256 (λ b. word_byte (slice_index (get_or FORWARD 2 []) b) 3) (λ b. product 1 (slice_index SBOX b)) refl b h ∙ ap (product 1) (SBOX-sbox b h)

pub FORWARD_3-row_0 : (b : ℕ) → b < 256 → word_byte (slice_index (get_or FORWARD 3 []) b) 0 ≡ product 1 (sbox b)
unfolding product polynomial_product remainder
FORWARD_3-row_0 b h = same_below 256 (λ b. word_byte (slice_index (get_or FORWARD 3 []) b) 0) (λ b. product 1 (slice_index SBOX b)) refl b h ∙ ap (product 1) (SBOX-sbox b h)

pub FORWARD_3-row_1 : (b : ℕ) → b < 256 → word_byte (slice_index (get_or FORWARD 3 []) b) 1 ≡ product 1 (sbox b)
unfolding product polynomial_product remainder
FORWARD_3-row_1 b h = same_below 256 (λ b. word_byte (slice_index (get_or FORWARD 3 []) b) 1) (λ b. product 1 (slice_index SBOX b)) refl b h ∙ ap (product 1) (SBOX-sbox b h)

pub FORWARD_3-row_2 : (b : ℕ) → b < 256 → word_byte (slice_index (get_or FORWARD 3 []) b) 2 ≡ product 3 (sbox b)
unfolding product polynomial_product remainder
FORWARD_3-row_2 b h = same_below 256 (λ b. word_byte (slice_index (get_or FORWARD 3 []) b) 2) (λ b. product 3 (slice_index SBOX b)) refl b h ∙ ap (product 3) (SBOX-sbox b h)

pub FORWARD_3-row_3 : (b : ℕ) → b < 256 → word_byte (slice_index (get_or FORWARD 3 []) b) 3 ≡ product 2 (sbox b)
unfolding product polynomial_product remainder
FORWARD_3-row_3 b h = same_below 256 (λ b. word_byte (slice_index (get_or FORWARD 3 []) b) 3) (λ b. product 2 (slice_index SBOX b)) refl b h ∙ ap (product 2) (SBOX-sbox b h)

pub INVERSE_0-row_0 : (b : ℕ) → b < 256 → word_byte (slice_index (get_or INVERSE 0 []) b) 0 ≡ product 14 (inverse_sbox b)
unfolding product polynomial_product remainder
INVERSE_0-row_0 b h = same_below 256 (λ b. word_byte (slice_index (get_or INVERSE 0 []) b) 0) (λ b. product 14 (slice_index INVERSE_SBOX b)) refl b h ∙ ap (product 14) (INVERSE_SBOX-inverse_sbox b h)

pub INVERSE_0-row_1 : (b : ℕ) → b < 256 → word_byte (slice_index (get_or INVERSE 0 []) b) 1 ≡ product 9 (inverse_sbox b)
unfolding product polynomial_product remainder
INVERSE_0-row_1 b h = same_below 256 (λ b. word_byte (slice_index (get_or INVERSE 0 []) b) 1) (λ b. product 9 (slice_index INVERSE_SBOX b)) refl b h ∙ ap (product 9) (INVERSE_SBOX-inverse_sbox b h)

pub INVERSE_0-row_2 : (b : ℕ) → b < 256 → word_byte (slice_index (get_or INVERSE 0 []) b) 2 ≡ product 13 (inverse_sbox b)
unfolding product polynomial_product remainder
INVERSE_0-row_2 b h = same_below 256 (λ b. word_byte (slice_index (get_or INVERSE 0 []) b) 2) (λ b. product 13 (slice_index INVERSE_SBOX b)) refl b h ∙ ap (product 13) (INVERSE_SBOX-inverse_sbox b h)

pub INVERSE_0-row_3 : (b : ℕ) → b < 256 → word_byte (slice_index (get_or INVERSE 0 []) b) 3 ≡ product 11 (inverse_sbox b)
unfolding product polynomial_product remainder
INVERSE_0-row_3 b h = same_below 256 (λ b. word_byte (slice_index (get_or INVERSE 0 []) b) 3) (λ b. product 11 (slice_index INVERSE_SBOX b)) refl b h ∙ ap (product 11) (INVERSE_SBOX-inverse_sbox b h)

pub INVERSE_1-row_0 : (b : ℕ) → b < 256 → word_byte (slice_index (get_or INVERSE 1 []) b) 0 ≡ product 11 (inverse_sbox b)
unfolding product polynomial_product remainder
INVERSE_1-row_0 b h = same_below 256 (λ b. word_byte (slice_index (get_or INVERSE 1 []) b) 0) (λ b. product 11 (slice_index INVERSE_SBOX b)) refl b h ∙ ap (product 11) (INVERSE_SBOX-inverse_sbox b h)

pub INVERSE_1-row_1 : (b : ℕ) → b < 256 → word_byte (slice_index (get_or INVERSE 1 []) b) 1 ≡ product 14 (inverse_sbox b)
unfolding product polynomial_product remainder
INVERSE_1-row_1 b h = same_below 256 (λ b. word_byte (slice_index (get_or INVERSE 1 []) b) 1) (λ b. product 14 (slice_index INVERSE_SBOX b)) refl b h ∙ ap (product 14) (INVERSE_SBOX-inverse_sbox b h)

pub INVERSE_1-row_2 : (b : ℕ) → b < 256 → word_byte (slice_index (get_or INVERSE 1 []) b) 2 ≡ product 9 (inverse_sbox b)
unfolding product polynomial_product remainder
INVERSE_1-row_2 b h = same_below 256 (λ b. word_byte (slice_index (get_or INVERSE 1 []) b) 2) (λ b. product 9 (slice_index INVERSE_SBOX b)) refl b h ∙ ap (product 9) (INVERSE_SBOX-inverse_sbox b h)

pub INVERSE_1-row_3 : (b : ℕ) → b < 256 → word_byte (slice_index (get_or INVERSE 1 []) b) 3 ≡ product 13 (inverse_sbox b)
unfolding product polynomial_product remainder
INVERSE_1-row_3 b h = same_below 256 (λ b. word_byte (slice_index (get_or INVERSE 1 []) b) 3) (λ b. product 13 (slice_index INVERSE_SBOX b)) refl b h ∙ ap (product 13) (INVERSE_SBOX-inverse_sbox b h)

pub INVERSE_2-row_0 : (b : ℕ) → b < 256 → word_byte (slice_index (get_or INVERSE 2 []) b) 0 ≡ product 13 (inverse_sbox b)
unfolding product polynomial_product remainder
INVERSE_2-row_0 b h = same_below 256 (λ b. word_byte (slice_index (get_or INVERSE 2 []) b) 0) (λ b. product 13 (slice_index INVERSE_SBOX b)) refl b h ∙ ap (product 13) (INVERSE_SBOX-inverse_sbox b h)

pub INVERSE_2-row_1 : (b : ℕ) → b < 256 → word_byte (slice_index (get_or INVERSE 2 []) b) 1 ≡ product 11 (inverse_sbox b)
unfolding product polynomial_product remainder
INVERSE_2-row_1 b h = same_below 256 (λ b. word_byte (slice_index (get_or INVERSE 2 []) b) 1) (λ b. product 11 (slice_index INVERSE_SBOX b)) refl b h ∙ ap (product 11) (INVERSE_SBOX-inverse_sbox b h)

pub INVERSE_2-row_2 : (b : ℕ) → b < 256 → word_byte (slice_index (get_or INVERSE 2 []) b) 2 ≡ product 14 (inverse_sbox b)
unfolding product polynomial_product remainder
INVERSE_2-row_2 b h = same_below 256 (λ b. word_byte (slice_index (get_or INVERSE 2 []) b) 2) (λ b. product 14 (slice_index INVERSE_SBOX b)) refl b h ∙ ap (product 14) (INVERSE_SBOX-inverse_sbox b h)

pub INVERSE_2-row_3 : (b : ℕ) → b < 256 → word_byte (slice_index (get_or INVERSE 2 []) b) 3 ≡ product 9 (inverse_sbox b)
unfolding product polynomial_product remainder
INVERSE_2-row_3 b h = same_below 256 (λ b. word_byte (slice_index (get_or INVERSE 2 []) b) 3) (λ b. product 9 (slice_index INVERSE_SBOX b)) refl b h ∙ ap (product 9) (INVERSE_SBOX-inverse_sbox b h)

pub INVERSE_3-row_0 : (b : ℕ) → b < 256 → word_byte (slice_index (get_or INVERSE 3 []) b) 0 ≡ product 9 (inverse_sbox b)
unfolding product polynomial_product remainder
INVERSE_3-row_0 b h = same_below 256 (λ b. word_byte (slice_index (get_or INVERSE 3 []) b) 0) (λ b. product 9 (slice_index INVERSE_SBOX b)) refl b h ∙ ap (product 9) (INVERSE_SBOX-inverse_sbox b h)

pub INVERSE_3-row_1 : (b : ℕ) → b < 256 → word_byte (slice_index (get_or INVERSE 3 []) b) 1 ≡ product 13 (inverse_sbox b)
unfolding product polynomial_product remainder
INVERSE_3-row_1 b h = same_below 256 (λ b. word_byte (slice_index (get_or INVERSE 3 []) b) 1) (λ b. product 13 (slice_index INVERSE_SBOX b)) refl b h ∙ ap (product 13) (INVERSE_SBOX-inverse_sbox b h)

pub INVERSE_3-row_2 : (b : ℕ) → b < 256 → word_byte (slice_index (get_or INVERSE 3 []) b) 2 ≡ product 11 (inverse_sbox b)
unfolding product polynomial_product remainder
INVERSE_3-row_2 b h = same_below 256 (λ b. word_byte (slice_index (get_or INVERSE 3 []) b) 2) (λ b. product 11 (slice_index INVERSE_SBOX b)) refl b h ∙ ap (product 11) (INVERSE_SBOX-inverse_sbox b h)

pub INVERSE_3-row_3 : (b : ℕ) → b < 256 → word_byte (slice_index (get_or INVERSE 3 []) b) 3 ≡ product 14 (inverse_sbox b)
unfolding product polynomial_product remainder
INVERSE_3-row_3 b h = same_below 256 (λ b. word_byte (slice_index (get_or INVERSE 3 []) b) 3) (λ b. product 14 (slice_index INVERSE_SBOX b)) refl b h ∙ ap (product 14) (INVERSE_SBOX-inverse_sbox b h)
