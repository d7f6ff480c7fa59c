-- The product as the code's sum of doubles.
use Rattle.std.proofs.Common.{◌≡◌, ℕ, zero, suc, ◌+◌, ◌*◌, ◌/◌, ◌%◌, ◌^◌, ◌<◌, bit_xor, refl, arith, add-one}
use Rattle.std.specs.Int.{bit_at}
use Rattle.std.specs.Int.Bits.{xor_zero_r}
use Rattle.kr_aes.specs.Field.{modulus, polynomial_product, remainder, product}
use Rattle.kr_aes.proofs.Cases.{same_below}
use Rattle.kr_aes.proofs.Linear.{remainder-xor, zero_times, one_times}

-- a shift, and the modulus taken away where a bit came out
abbrev pub shifted_once : ℕ → ℕ
shifted_once b = bit_xor (b * 2 % 256) (b / 128 * 27)

pub product-two : (b : ℕ) → b < 256 → product 2 b ≡ shifted_once b
unfolding product polynomial_product remainder
product-two = same_below 256 (λ b. product 2 b) shifted_once refl

-- x to the power i, times a byte
unfoldable pub shifted : ℕ → ℕ → ℕ
shifted zero b = b
shifted (suc i) b = product 2 (shifted i b)

-- its remainder, at each of the 8 times 256 pairs
remainder-shifted : (i b : ℕ) → i < 8 → b < 256 → remainder modulus 8 7 (b * 2 ^ i) ≡ shifted i b
unfolding shifted product polynomial_product remainder
remainder-shifted i b hi hb =
    let n : ℕ = 256 * i + b in
    let low : n % 256 ≡ b = omega arith in
    let high : n / 256 ≡ i = omega arith in
    let at : remainder modulus 8 7 (n % 256 * 2 ^ (n / 256)) ≡ shifted (n / 256) (n % 256) =
    same_below 2048 (λ n. remainder modulus 8 7 (n % 256 * 2 ^ (n / 256))) (λ n. shifted (n / 256) (n % 256)) refl n (omega arith) in
    rw (low, high) at at

-- the terms below i of the product
unfoldable pub partial_product : ℕ → ℕ → ℕ → ℕ
partial_product i a b = remainder modulus 8 7 (polynomial_product i a b)

pub shifted_next : (i b : ℕ) → product 2 (shifted i b) ≡ shifted (i + 1) b
unfolding shifted
shifted_next i b = rw add-one refl

pub partial_product_next : (i a b : ℕ) → i < 8 → b < 256 → bit_at a i ≡ 1 → bit_xor (partial_product i a b) (shifted i b) ≡ partial_product (i + 1) a b
unfolding partial_product polynomial_product
partial_product_next i a b hi hb e =
    rw (add-one, e, one_times (b * 2 ^ i), remainder-xor modulus 8 7 (polynomial_product i a b) (b * 2 ^ i), remainder-shifted i b hi hb) refl

pub partial_product_same : (i a b : ℕ) → bit_at a i ≡ 0 → partial_product i a b ≡ partial_product (i + 1) a b
unfolding partial_product polynomial_product
partial_product_same i a b e =
    rw (add-one, e, zero_times (b * 2 ^ i), xor_zero_r (polynomial_product i a b)) refl

pub partial_product_whole : (a b : ℕ) → partial_product 8 a b ≡ product a b
unfolding partial_product product
partial_product_whole a b = refl
