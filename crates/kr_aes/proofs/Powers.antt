-- The inverse of a byte is its power 254.
use Rattle.std.proofs.Common.{◌≡◌, ℕ, zero, suc, ◌+◌, ◌-◌, ◌<◌, refl, arith}
use Rattle.kr_aes.specs.Field.{polynomial_product, remainder, product, inverse}
use Rattle.kr_aes.proofs.Cases.{same_below}

-- the outcome times the power's next n squares
unfoldable pub times_squares : ℕ → ℕ → ℕ → ℕ
times_squares zero power outcome = outcome
times_squares (suc n) power outcome = times_squares n (product power power) (product outcome (product power power))

pub times_squares_next : (n power outcome : ℕ) → n < 7 → times_squares (7 - n) power outcome ≡ times_squares (7 - (n + 1)) (product power power) (product outcome (product power power))
unfolding times_squares
times_squares_next n power outcome h =
    let e : 7 - n ≡ suc (7 - (n + 1)) = omega arith in
    rw e refl

pub times_squares_none : (power outcome : ℕ) → times_squares 0 power outcome ≡ outcome
unfolding times_squares
times_squares_none power outcome = refl

-- at each of the 256 bytes
pub times_squares-inverse : (b : ℕ) → b < 256 → times_squares 7 b 1 ≡ inverse b
unfolding product polynomial_product remainder inverse times_squares
times_squares-inverse = same_below 256 (λ b. times_squares 7 b 1) inverse refl

product-inverse_next : (n : ℕ) → n < 255 → product (n + 1) (inverse (n + 1)) ≡ 1
unfolding product polynomial_product remainder inverse
product-inverse_next = same_below 255 (λ n. product (n + 1) (inverse (n + 1))) (λ n. 1) refl

pub product-inverse : (b : ℕ) → 0 < b → b < 256 → product b (inverse b) ≡ 1
product-inverse b some fits =
    let e : b - 1 + 1 ≡ b = omega arith in
    rw e at (product-inverse_next (b - 1) (omega arith))
