-- Two products by one subkey are a product by its square.
use Rattle.std.proofs.Common.{◌≡◌, ℕ, zero, suc, ◌+◌, ◌*◌, ◌%◌, ◌/◌, ◌^◌, ◌<◌, ◌≤◌, bit_xor, refl, sym, ap, ◌∙◌, arith, inl, inr, pow_pos}
use Rattle.std.proofs.lemmas.Nat.{mod-pow-add, mod_below, xor_block, xor_lt}
use Rattle.std.proofs.lemmas.Nat.Bits.{bit_at-lt}
use Rattle.std.specs.Int.{bit_at}
use Rattle.std.specs.Int.Bits.{xor_self, xor_zero_l, xor_zero_r}
use Rattle.kr_aes.specs.Field.{polynomial_product, remainder}
use Rattle.kr_aes.proofs.Linear.{below_two, one_times, polynomial_product-xor, remainder-xor, xor_shl, zero_times}
use Rattle.kr_modes.specs.Ghash.{modulus, product}
use Rattle.kr_modes.specs.inner.Tables.{four_terms, power, times_x, turned}
use Rattle.kr_modes.proofs.Groups.{term_more}
use Rattle.kr_modes.proofs.Remainders.{partial_product, partial_product_none, partial_product_whole, power_next, power_none, product-xor, remainder-shifted}

-- ---- the product of two polynomials is that of the second and the first

low_bits : (a n : ℕ) → a % 2 ^ suc n ≡ bit_xor (a % 2 ^ n) (bit_at a n * 2 ^ n)
low_bits a n =
    let r : ℕ = a % 2 ^ n in
    let bit : ℕ = bit_at a n in
    let place : suc n ≡ 1 + n = omega arith in
    let split : a % 2 ^ suc n ≡ bit * 2 ^ n + r = ap (λ (k : ℕ). a % 2 ^ k) place ∙ mod-pow-add a 1 n in
    let sum : bit_xor (0 * 2 ^ n + r) (bit * 2 ^ n + 0) ≡ bit_xor 0 bit * 2 ^ n + bit_xor r 0 =
    xor_block n 0 bit r 0 (mod_below a (2 ^ n) (pow_pos n)) (pow_pos n) in
    let one : 0 * 2 ^ n + r ≡ r = omega arith in
    let two : bit * 2 ^ n + 0 ≡ bit * 2 ^ n = omega arith in
    split ∙ sym (λ i. xor_zero_l bit i * 2 ^ n + xor_zero_r r i) ∙ sym sum ∙ (λ i. bit_xor (one i) (two i))

times_none : (x : ℕ) → x * 0 ≡ 0
times_none x = omega arith

no_product : (n a : ℕ) → polynomial_product n a 0 ≡ 0
unfolding polynomial_product
no_product zero a = refl
no_product (suc n) a =
    let last : bit_at a n * (0 * 2 ^ n) ≡ 0 = ap (λ (x : ℕ). bit_at a n * x) (zero_times (2 ^ n)) ∙ times_none (bit_at a n) in
    (λ i. bit_xor (no_product n a i) (last i)) ∙ xor_self 0

product_by_power : (n m a : ℕ) → polynomial_product n a (2 ^ m) ≡ a % 2 ^ n * 2 ^ m
unfolding polynomial_product
product_by_power zero m a =
    let none : a % 2 ^ 0 ≡ 0 = omega arith in
    sym (ap (λ (x : ℕ). x * 2 ^ m) none ∙ zero_times (2 ^ m))
product_by_power (suc n) m a =
    (λ i. bit_xor (product_by_power n m a i) (regroup (bit_at a n) (2 ^ m) (2 ^ n) i))
    ∙ sym (xor_shl (a % 2 ^ n) (bit_at a n * 2 ^ n) m)
    ∙ ap (λ (x : ℕ). x * 2 ^ m) (sym (low_bits a n))
  where
    regroup : (x s t : ℕ) → x * (s * t) ≡ x * t * s
    regroup x s t = omega arith

product_by_bit : (n m a c : ℕ) → c < 2 → polynomial_product n a (c * 2 ^ m) ≡ c * (a % 2 ^ n * 2 ^ m)
product_by_bit n m a c lt = elim (below_two c lt) [
  | inl e ↦ rw (e, zero_times (2 ^ m), zero_times (a % 2 ^ n * 2 ^ m)) (no_product n a)
  | inr e ↦ rw (e, one_times (2 ^ m), one_times (a % 2 ^ n * 2 ^ m)) (product_by_power n m a)
]

exchanged : (n m a b : ℕ) → polynomial_product n a (b % 2 ^ m) ≡ polynomial_product m b (a % 2 ^ n)
unfolding polynomial_product
exchanged n zero a b =
    let none : b % 2 ^ 0 ≡ 0 = omega arith in
    ap (polynomial_product n a) none ∙ no_product n a
exchanged n (suc m) a b =
    ap (polynomial_product n a) (low_bits b m)
    ∙ polynomial_product-xor n a (b % 2 ^ m) (bit_at b m * 2 ^ m)
    ∙ (λ i. bit_xor (exchanged n m a b i) (product_by_bit n m a (bit_at b m) (bit_at-lt b m) i))

product_exchanged : (a b : ℕ) → a < 2 ^ 128 → b < 2 ^ 128 → product a b ≡ product b a
unfolding product
product_exchanged a b low fits =
    let one : b ≡ b % 2 ^ 128 = omega arith in
    let two : a % 2 ^ 128 ≡ a = omega arith in
    ap (remainder modulus 128 127) (ap (polynomial_product 128 a) one ∙ exchanged 128 128 a b ∙ ap (polynomial_product 128 b) two)

-- ---- x times a polynomial

times_x-xor : (p q : ℕ) → times_x (bit_xor p q) ≡ bit_xor (times_x p) (times_x q)
times_x-xor p q = ap (remainder modulus 128 1) (xor_shl p q 1) ∙ remainder-xor modulus 128 1 (p * 2) (q * 2)

times_x_none : times_x 0 ≡ 0
times_x_none = sym (ap (λ (x : ℕ). times_x x) (xor_self 0)) ∙ times_x-xor 0 0 ∙ xor_self (times_x 0)

times_x-bit : (c p : ℕ) → c < 2 → times_x (c * p) ≡ c * times_x p
times_x-bit c p lt = elim (below_two c lt) [
  | inl e ↦ rw (e, zero_times p, zero_times (times_x p)) times_x_none
  | inr e ↦ rw (e, one_times p, one_times (times_x p)) refl
]

times_x-lt : (p : ℕ) → p < 2 ^ 128 → times_x p < 2 ^ 128
times_x-lt p fits =
    let low : p * 2 % 2 ^ 128 < 2 ^ 128 = mod_below (p * 2) (2 ^ 128) (omega arith) in
    rw (sym (remainder-shifted p fits)) (xor_lt 128 (p * 2 % 2 ^ 128) (p / 2 ^ 127 * 135) low (omega arith))

power_up : (i b : ℕ) → times_x (power i b) ≡ power (suc i) b
power_up i b =
    let up : i + 1 ≡ suc i = omega arith in
    power_next i b ∙ ap (λ (k : ℕ). power k b) up

power-lt : (i b : ℕ) → b < 2 ^ 128 → power i b < 2 ^ 128
power-lt zero b fits = rw (sym (power_none b)) fits
power-lt (suc i) b fits = rw (sym (power_up i b)) (times_x-lt (power i b) (power-lt i b fits))

power_of_next : (i b : ℕ) → power i (times_x b) ≡ times_x (power i b)
power_of_next zero b = sym (power_none (times_x b)) ∙ ap (λ (x : ℕ). times_x x) (power_none b)
power_of_next (suc i) b = sym (power_up i (times_x b)) ∙ ap (λ (x : ℕ). times_x x) (power_of_next i b ∙ power_up i b)

-- ---- a product by its terms

term_up : (i a h : ℕ) → i < 128 → h < 2 ^ 128
    → partial_product (suc i) a h ≡ bit_xor (partial_product i a h) (bit_at a i * power i h)
term_up i a h lt fits =
    let up : suc i ≡ i + 1 = omega arith in
    ap (λ (k : ℕ). partial_product k a h) up ∙ term_more i a h lt fits

partial_of_next : (i a b : ℕ) → i ≤ 128 → b < 2 ^ 128 → partial_product i a (times_x b) ≡ times_x (partial_product i a b)
partial_of_next zero a b le fits =
    sym (partial_product_none a (times_x b)) ∙ sym times_x_none ∙ ap (λ (x : ℕ). times_x x) (partial_product_none a b)
partial_of_next (suc i) a b le fits =
    let bit : ℕ = bit_at a i in
    let last : bit * power i (times_x b) ≡ times_x (bit * power i b) =
    ap (λ (x : ℕ). bit * x) (power_of_next i b) ∙ sym (times_x-bit bit (power i b) (bit_at-lt a i)) in
    term_up i a (times_x b) (omega arith) (times_x-lt b fits)
    ∙ (λ k. bit_xor (partial_of_next i a b (omega arith) fits k) (last k))
    ∙ sym (times_x-xor (partial_product i a b) (bit * power i b))
    ∙ ap (λ (x : ℕ). times_x x) (sym (term_up i a b (omega arith) fits))

product_of_next : (a b : ℕ) → b < 2 ^ 128 → product a (times_x b) ≡ times_x (product a b)
product_of_next a b fits =
    sym (partial_product_whole a (times_x b)) ∙ partial_of_next 128 a b (omega arith) fits
    ∙ ap (λ (x : ℕ). times_x x) (partial_product_whole a b)

product_of_power : (i a b : ℕ) → b < 2 ^ 128 → product a (power i b) ≡ power i (product a b)
product_of_power zero a b fits = ap (product a) (sym (power_none b)) ∙ power_none (product a b)
product_of_power (suc i) a b fits =
    ap (product a) (sym (power_up i b)) ∙ product_of_next a (power i b) (power-lt i b fits)
    ∙ ap (λ (x : ℕ). times_x x) (product_of_power i a b fits) ∙ power_up i (product a b)

bit_times-lt : (c p : ℕ) → c < 2 → p < 2 ^ 128 → c * p < 2 ^ 128
bit_times-lt c p lt fits = elim (below_two c lt) [
  | inl e ↦ rw (e, zero_times p) (omega arith)
  | inr e ↦ rw (e, one_times p) fits
]

partial-lt : (i a b : ℕ) → i ≤ 128 → b < 2 ^ 128 → partial_product i a b < 2 ^ 128
partial-lt zero a b le fits = rw (sym (partial_product_none a b)) (omega arith)
partial-lt (suc i) a b le fits =
    rw (term_up i a b (omega arith) fits)
    (xor_lt 128 (partial_product i a b) (bit_at a i * power i b) (partial-lt i a b (omega arith) fits)
    (bit_times-lt (bit_at a i) (power i b) (bit_at-lt a i) (power-lt i b fits)))

product-lt : (a b : ℕ) → b < 2 ^ 128 → product a b < 2 ^ 128
product-lt a b fits = rw (sym (partial_product_whole a b)) (partial-lt 128 a b (omega arith) fits)

product_of_none : (c : ℕ) → product c 0 ≡ 0
product_of_none c = sym (ap (product c) (xor_self 0)) ∙ product-xor c 0 0 ∙ xor_self (product c 0)

product_of_bit : (c bit p : ℕ) → bit < 2 → product c (bit * p) ≡ bit * product c p
product_of_bit c bit p lt = elim (below_two bit lt) [
  | inl e ↦ rw (e, zero_times p, zero_times (product c p)) (product_of_none c)
  | inr e ↦ rw (e, one_times p, one_times (product c p)) refl
]

product_of_partial : (i c a b : ℕ) → i ≤ 128 → b < 2 ^ 128
    → product c (partial_product i a b) ≡ partial_product i a (product c b)
product_of_partial zero c a b le fits =
    ap (product c) (sym (partial_product_none a b)) ∙ product_of_none c ∙ partial_product_none a (product c b)
product_of_partial (suc i) c a b le fits =
    let bit : ℕ = bit_at a i in
    let last : product c (bit * power i b) ≡ bit * power i (product c b) =
    product_of_bit c bit (power i b) (bit_at-lt a i) ∙ ap (λ (x : ℕ). bit * x) (product_of_power i c b fits) in
    ap (product c) (term_up i a b (omega arith) fits)
    ∙ product-xor c (partial_product i a b) (bit * power i b)
    ∙ (λ k. bit_xor (product_of_partial i c a b (omega arith) fits k) (last k))
    ∙ sym (term_up i a (product c b) (omega arith) (product-lt c b fits))

-- ---- the square

pub product_twice : (a h : ℕ) → h < 2 ^ 128 → product (product a h) h ≡ product a (product h h)
product_twice a h fits =
    product_exchanged (product a h) h (product-lt a h fits) fits
    ∙ ap (product h) (sym (partial_product_whole a h))
    ∙ product_of_partial 128 h a h (omega arith) fits
    ∙ partial_product_whole a (product h h)

-- the entry of 1 in the first table
pub first_term : (p : ℕ) → four_terms (turned 8) (power 0 p) ≡ p
unfolding four_terms
first_term p =
    let first : four_terms (turned 8) (power 0 p) ≡ power 0 p = simp (zero_times, one_times, xor_zero_r) in
    first ∙ sym (power_none p)
