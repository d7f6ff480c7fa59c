-- The remainder and the product of polynomials are linear, and so is the product of bytes.
use Rattle.std.proofs.Common.{◌≡◌, ℕ, zero, suc, ◌+◌, ◌*◌, ◌%◌, ◌^◌, ◌<◌, bit_xor, refl, sym, ap, ◌∙◌, arith, ◌⊎◌, inl, inr, pow_pos}
use Rattle.std.proofs.lemmas.Nat.{xor_comm, xor_block}
use Rattle.std.proofs.lemmas.Nat.Bits.{bit_at_xor, bit_at-lt}
use Rattle.std.specs.Int.{bit_at}
use Rattle.std.specs.Int.Bits.{xor_self, xor_zero_l, xor_zero_r}
use lib.Bits.{xor_assoc}
use Rattle.kr_aes.specs.Field.{modulus, polynomial_product, remainder, product}

-- the middle two of four change places
pub xor_interchange : (a b c d : ℕ) → bit_xor (bit_xor a b) (bit_xor c d) ≡ bit_xor (bit_xor a c) (bit_xor b d)
xor_interchange a b c d =
    xor_assoc a b (bit_xor c d)
    ∙ ap (bit_xor a) (sym (xor_assoc b c d) ∙ ap (λ (x : ℕ). bit_xor x d) (xor_comm b c) ∙ xor_assoc c b d)
    ∙ sym (xor_assoc a c (bit_xor b d))

-- a number below 2 is 0 or 1
pub below_two : (x : ℕ) → x < 2 → (x ≡ 0) ⊎ (x ≡ 1)
below_two x h = grind arith

pub zero_times : (m : ℕ) → 0 * m ≡ 0
zero_times m = omega arith

pub one_times : (m : ℕ) → 1 * m ≡ m
one_times m = omega arith

-- the sum of two bits, times a polynomial
pub bit_times : (x y m : ℕ) → x < 2 → y < 2 → (x + y) % 2 * m ≡ bit_xor (x * m) (y * m)
bit_times x y m hx hy = elim (below_two x hx) [
  | inl ex ↦ elim (below_two y hy) [
    | inl ey ↦ rw (ex, ey, zero_times m) refl
    | inr ey ↦ rw (ex, ey, zero_times m, one_times m) (sym (xor_zero_l m))
  ]
  | inr ex ↦ elim (below_two y hy) [
    | inl ey ↦ rw (ex, ey, zero_times m, one_times m) (sym (xor_zero_r m))
    | inr ey ↦ rw (ex, ey, zero_times m, one_times m) (sym (xor_self m))
  ]
]

-- a polynomial times a power of x, and times a bit
pub xor_shl : (b c k : ℕ) → bit_xor b c * 2 ^ k ≡ bit_xor (b * 2 ^ k) (c * 2 ^ k)
xor_shl b c k = omega (arith, xor_block k b c 0 0 (pow_pos k) (pow_pos k), ap (λ (x : ℕ). bit_xor x (c * 2 ^ k + 0)) (add_nothing (b * 2 ^ k)), ap (bit_xor (b * 2 ^ k)) (add_nothing (c * 2 ^ k)))
  where
    add_nothing : (x : ℕ) → x + 0 ≡ x
    add_nothing x = omega arith

pub times_xor : (x m n : ℕ) → x < 2 → x * bit_xor m n ≡ bit_xor (x * m) (x * n)
times_xor x m n h = elim (below_two x h) [
  | inl e ↦ rw (e, zero_times (bit_xor m n), zero_times m, zero_times n) refl
  | inr e ↦ rw (e, one_times (bit_xor m n), one_times m, one_times n) refl
]

pub remainder-xor : (divisor d n p q : ℕ) → remainder divisor d n (bit_xor p q) ≡ bit_xor (remainder divisor d n p) (remainder divisor d n q)
unfolding remainder
remainder-xor divisor d zero p q = refl
remainder-xor divisor d (suc i) p q =
    let m : ℕ = divisor * 2 ^ i in
    let bits : bit_at (bit_xor p q) (i + d) * m ≡ bit_xor (bit_at p (i + d) * m) (bit_at q (i + d) * m) =
    ap (λ (x : ℕ). x * m) (bit_at_xor p q (i + d)) ∙ bit_times (bit_at p (i + d)) (bit_at q (i + d)) m (bit_at-lt p (i + d)) (bit_at-lt q (i + d)) in
    ap (λ (x : ℕ). remainder divisor d i (bit_xor (bit_xor p q) x)) bits
    ∙ ap (remainder divisor d i) (xor_interchange p q (bit_at p (i + d) * m) (bit_at q (i + d) * m))
    ∙ remainder-xor divisor d i (bit_xor p (bit_at p (i + d) * m)) (bit_xor q (bit_at q (i + d) * m))

pub polynomial_product-xor : (n a b c : ℕ) → polynomial_product n a (bit_xor b c) ≡ bit_xor (polynomial_product n a b) (polynomial_product n a c)
unfolding polynomial_product
polynomial_product-xor zero a b c = refl
polynomial_product-xor (suc i) a b c =
    let bit : ℕ = bit_at a i in
    let last : bit * (bit_xor b c * 2 ^ i) ≡ bit_xor (bit * (b * 2 ^ i)) (bit * (c * 2 ^ i)) =
    ap (λ (x : ℕ). bit * x) (xor_shl b c i) ∙ times_xor bit (b * 2 ^ i) (c * 2 ^ i) (bit_at-lt a i) in
    ap (bit_xor (polynomial_product i a (bit_xor b c))) last
    ∙ ap (λ (x : ℕ). bit_xor x (bit_xor (bit * (b * 2 ^ i)) (bit * (c * 2 ^ i)))) (polynomial_product-xor i a b c)
    ∙ xor_interchange (polynomial_product i a b) (polynomial_product i a c) (bit * (b * 2 ^ i)) (bit * (c * 2 ^ i))

pub polynomial_product_of_xor : (n a b c : ℕ) → polynomial_product n (bit_xor a b) c ≡ bit_xor (polynomial_product n a c) (polynomial_product n b c)
unfolding polynomial_product
polynomial_product_of_xor zero a b c = refl
polynomial_product_of_xor (suc i) a b c =
    let m : ℕ = c * 2 ^ i in
    let last : bit_at (bit_xor a b) i * m ≡ bit_xor (bit_at a i * m) (bit_at b i * m) =
    ap (λ (x : ℕ). x * m) (bit_at_xor a b i) ∙ bit_times (bit_at a i) (bit_at b i) m (bit_at-lt a i) (bit_at-lt b i) in
    ap (bit_xor (polynomial_product i (bit_xor a b) c)) last
    ∙ ap (λ (x : ℕ). bit_xor x (bit_xor (bit_at a i * m) (bit_at b i * m))) (polynomial_product_of_xor i a b c)
    ∙ xor_interchange (polynomial_product i a c) (polynomial_product i b c) (bit_at a i * m) (bit_at b i * m)

-- the product distributes over the sum
pub product-xor : (a b c : ℕ) → product a (bit_xor b c) ≡ bit_xor (product a b) (product a c)
unfolding product
product-xor a b c =
    ap (remainder modulus 8 7) (polynomial_product-xor 8 a b c) ∙ remainder-xor modulus 8 7 (polynomial_product 8 a b) (polynomial_product 8 a c)
