-- The product in the field of GHASH: it is linear, and the code's sum of doubles.
use Rattle.std.proofs.Common.{◌≡◌, ℕ, zero, suc, ◌+◌, ◌-◌, ◌*◌, ◌/◌, ◌%◌, ◌^◌, ◌<◌, bit_xor, refl, sym, ap, ◌∙◌, arith, inl, inr, add-one}
use Rattle.std.proofs.Math.Nat.{pow-suc}
use Rattle.std.specs.Int.{bit_at}
use Rattle.std.specs.Int.Bits.{xor_self, xor_zero_r}
use Rattle.std.proofs.lemmas.Nat.{xor_block, shl_below}
use Rattle.std.proofs.lemmas.Nat.Bits.{bit_at_above, bit_at-suc}
use Rattle.kr_aes.specs.Field.{polynomial_product, remainder}
use Rattle.kr_aes.proofs.Linear.{below_two, one_times, polynomial_product-xor, polynomial_product_of_xor, remainder-xor, xor_shl, zero_times}
use Rattle.kr_modes.specs.Ghash.{modulus, product}
use Rattle.kr_modes.specs.inner.Tables.{power}

-- ---- the product is linear

pub product-xor : (a b c : ℕ) → product a (bit_xor b c) ≡ bit_xor (product a b) (product a c)
unfolding product
product-xor a b c =
    ap (remainder modulus 128 127) (polynomial_product-xor 128 a b c) ∙ remainder-xor modulus 128 127 (polynomial_product 128 a b) (polynomial_product 128 a c)

pub product_of_xor : (a b c : ℕ) → product (bit_xor a b) c ≡ bit_xor (product a c) (product b c)
unfolding product
product_of_xor a b c =
    ap (remainder modulus 128 127) (polynomial_product_of_xor 128 a b c) ∙ remainder-xor modulus 128 127 (polynomial_product 128 a c) (polynomial_product 128 b c)

-- ---- x times a polynomial

-- the remainder of x times a polynomial is found from its own
remainder-double : (n p : ℕ) → remainder modulus 128 (suc n) (p * 2) ≡ remainder modulus 128 1 (remainder modulus 128 n p * 2)
unfolding remainder
remainder-double zero p = refl
remainder-double (suc n) p =
    let bit : ℕ = bit_at p (n + 128) in
    let q : ℕ = bit_xor p (bit * (modulus * 2 ^ n)) in
    let place : suc n + 128 ≡ suc (n + 128) = omega arith in
    let half : p * 2 / 2 ≡ p = omega arith in
    let moved : bit_at (p * 2) (suc n + 128) ≡ bit = ap (bit_at (p * 2)) place ∙ bit_at-suc (p * 2) (n + 128) ∙ ap (λ (x : ℕ). bit_at x (n + 128)) half in
    let term : bit_at (p * 2) (suc n + 128) * (modulus * 2 ^ suc n) ≡ bit * (modulus * 2 ^ n) * 2 =
    ap (λ (x : ℕ). x * (modulus * 2 ^ suc n)) moved ∙ ap (λ (x : ℕ). bit * (modulus * x)) (pow-suc 2 n) ∙ regroup bit modulus (2 ^ n) in
    ap (λ (x : ℕ). remainder modulus 128 (suc n) (bit_xor (p * 2) x)) term
    ∙ ap (remainder modulus 128 (suc n)) (sym (xor_shl p (bit * (modulus * 2 ^ n)) 1))
    ∙ remainder-double n q
  where
    regroup : (x m t : ℕ) → x * (m * (t * 2)) ≡ x * (m * t) * 2
    regroup x m t = omega arith

-- a polynomial of degree below 128 + i is reduced from x^(i + 127) down
remainder-more : (k i p : ℕ) → p < 2 ^ (128 + i) → remainder modulus 128 (i + k) p ≡ remainder modulus 128 i p
unfolding remainder
remainder-more zero i p h =
    let e : i + 0 ≡ i = omega arith in
    rw e refl
remainder-more (suc k) i p h =
    let e : i + suc k ≡ suc (i + k) = omega arith in
    let none : bit_at p (i + k + 128) ≡ 0 = bit_at_above p (128 + i) (i + k + 128) h (omega arith) in
    let kept : bit_xor p (bit_at p (i + k + 128) * (modulus * 2 ^ (i + k))) ≡ p = rw (none, zero_times (modulus * 2 ^ (i + k))) (xor_zero_r p) in
    rw e (ap (remainder modulus 128 (i + k)) kept ∙ remainder-more k i p h)

pub power_none : (b : ℕ) → b ≡ power 0 b
unfolding power remainder
power_none b = omega arith

pub power_next : (i b : ℕ) → remainder modulus 128 1 (power i b * 2) ≡ power (i + 1) b
unfolding power
power_next i b =
    let shift : b * 2 ^ i * 2 ≡ b * 2 ^ suc i = regroup b (2 ^ i) ∙ ap (λ (x : ℕ). b * x) (sym (pow-suc 2 i)) in
    rw add-one (sym (remainder-double i (b * 2 ^ i)) ∙ ap (remainder modulus 128 (suc i)) shift)
  where
    regroup : (x t : ℕ) → x * t * 2 ≡ x * (t * 2)
    regroup x t = omega arith

-- the code's shift, and the modulus taken away where a bit came out
pub remainder-shifted : (p : ℕ) → p < 2 ^ 128 → bit_xor (p * 2 % 2 ^ 128) (p / 2 ^ 127 * 135) ≡ remainder modulus 128 1 (p * 2)
unfolding remainder
remainder-shifted p h = elim (below_two (p / 2 ^ 127) (omega arith)) [
  | inl low ↦
      let bit : bit_at (p * 2) 128 ≡ 0 = omega arith in
      let whole : p * 2 % 2 ^ 128 ≡ p * 2 = omega arith in
      rw (low, whole, bit) refl
  | inr high ↦
      let r : ℕ = p * 2 % 2 ^ 128 in
      let bit : bit_at (p * 2) 128 ≡ 1 = omega arith in
      let split : p * 2 ≡ 1 * 2 ^ 128 + r = omega arith in
      let taken : bit_xor (1 * 2 ^ 128 + r) (1 * 2 ^ 128 + 135) ≡ bit_xor r 135 =
      xor_block 128 1 1 r 135 (omega arith) (omega arith) ∙ omega (arith, xor_self 1) in
      rw (high, bit) (sym taken ∙ ap (λ (x : ℕ). bit_xor x (1 * 2 ^ 128 + 135)) (sym split))
]

-- ---- the terms below x^i of the product

unfoldable pub partial_product : ℕ → ℕ → ℕ → ℕ
partial_product i a b = remainder modulus 128 127 (polynomial_product i a b)

remainder-power : (i b : ℕ) → i < 128 → b < 2 ^ 128 → remainder modulus 128 127 (b * 2 ^ i) ≡ power i b
unfolding power
remainder-power i b lt fits =
    let k : i + (127 - i) ≡ 127 = omega arith in
    rw k at (remainder-more (127 - i) i (b * 2 ^ i) (shl_below b 128 i fits))

pub partial_product_none : (a b : ℕ) → 0 ≡ partial_product 0 a b
unfolding partial_product polynomial_product remainder
partial_product_none a b = refl

pub partial_product_next : (i a b : ℕ) → i < 128 → b < 2 ^ 128 → bit_at a i ≡ 1 → bit_xor (partial_product i a b) (power i b) ≡ partial_product (i + 1) a b
unfolding partial_product polynomial_product
partial_product_next i a b lt fits e =
    rw (add-one, e, one_times (b * 2 ^ i), remainder-xor modulus 128 127 (polynomial_product i a b) (b * 2 ^ i), remainder-power i b lt fits) refl

pub partial_product_same : (i a b : ℕ) → bit_at a i ≡ 0 → partial_product i a b ≡ partial_product (i + 1) a b
unfolding partial_product polynomial_product
partial_product_same i a b e =
    rw (add-one, e, zero_times (b * 2 ^ i), xor_zero_r (polynomial_product i a b)) refl

pub partial_product_whole : (a b : ℕ) → partial_product 128 a b ≡ product a b
unfolding partial_product product
partial_product_whole a b = refl
