-- The field of 256 elements (FIPS 197, as updated in 2023, section 4). A byte is the polynomial
-- over two elements whose coefficient of x^i is bit i. The sum of two polynomials is their
-- exclusive or, `bit_xor` (4.1).
use Rattle.std.specs.Prelude.{◌≡◌, ℕ, zero, suc, ◌+◌, ◌*◌, ◌^◌, ◌<◌, ◌==◌, bit_xor, find, unwrap_or}
use Rattle.std.specs.Int.{bit_at}
use Rattle.std.specs.List.{range_with_len}

-- the product of two polynomials: the sum of the second times x^i, for each x^i below x^n in the
-- first (4.2)
unfoldable pub polynomial_product : ℕ → ℕ → ℕ → ℕ
polynomial_product zero a b = 0
polynomial_product (suc i) a b = bit_xor (polynomial_product i a b) (bit_at a i * (b * 2 ^ i))

-- the remainder of a polynomial of degree below n + d by a modulus of degree d: from the highest
-- term down, an x^(i + d) in it is taken away by the modulus times x^i (4.2)
unfoldable pub remainder : ℕ → ℕ → ℕ → ℕ → ℕ
remainder divisor d zero p = p
remainder divisor d (suc i) p =
    remainder divisor d i (bit_xor p (bit_at p (i + d) * (divisor * 2 ^ i)))

-- x^8 + x^4 + x^3 + x + 1, which no two polynomials of lower degree multiply to (4.2)
abbrev pub modulus : ℕ
modulus = 0x11b

-- the product of two bytes (4.2)
unfoldable pub product : ℕ → ℕ → ℕ
product a b = remainder modulus 8 7 (polynomial_product 8 a b)

-- the byte whose product with b is 1, and 0 for 0, which has none (4.4)
unfoldable pub inverse : ℕ → ℕ
inverse b = unwrap_or (find (λ c. product b c == 1) (range_with_len 0 256)) 0

-- ---- laws of the field, which show that these are its product and its inverse

abbrev pub EachHasInverse : Type 0
EachHasInverse = (b : ℕ) → 0 < b → b < 256 → product b (inverse b) ≡ 1

abbrev pub ProductDistributes : Type 0
ProductDistributes = (a b c : ℕ) → product a (bit_xor b c) ≡ bit_xor (product a b) (product a c)
