-- A byte by its eight bits: its sum with another, and its double.
use Rattle.std.proofs.Common.{◌≡◌, ℕ, zero, suc, ◌+◌, ◌*◌, ◌%◌, ◌<◌, bit_xor, refl, sym, ◌∙◌, arith, lit<}
use Rattle.std.specs.Int.{bit_at}
use Rattle.std.proofs.lemmas.Nat.{xor_of_8}
use Rattle.std.proofs.lemmas.Nat.Bits.{bit_at_xor, same_from_bits_below}
use Rattle.kr_aes.specs.Field.{polynomial_product, product, remainder}
use Rattle.kr_aes.specs.Cipher.{byte_of}
use Rattle.kr_aes.proofs.Cases.{same_below}

-- what holds of each of eight
pub each_of_eight : (P : ℕ → Type 0) → P 0 → P 1 → P 2 → P 3 → P 4 → P 5 → P 6 → P 7 → (k : ℕ) → k < 8 → P k
each_of_eight P h0 h1 h2 h3 h4 h5 h6 h7 zero lt = h0
each_of_eight P h0 h1 h2 h3 h4 h5 h6 h7 (suc zero) lt = h1
each_of_eight P h0 h1 h2 h3 h4 h5 h6 h7 (suc (suc zero)) lt = h2
each_of_eight P h0 h1 h2 h3 h4 h5 h6 h7 (suc (suc (suc zero))) lt = h3
each_of_eight P h0 h1 h2 h3 h4 h5 h6 h7 (suc (suc (suc (suc zero)))) lt = h4
each_of_eight P h0 h1 h2 h3 h4 h5 h6 h7 (suc (suc (suc (suc (suc zero))))) lt = h5
each_of_eight P h0 h1 h2 h3 h4 h5 h6 h7 (suc (suc (suc (suc (suc (suc zero)))))) lt = h6
each_of_eight P h0 h1 h2 h3 h4 h5 h6 h7 (suc (suc (suc (suc (suc (suc (suc zero))))))) lt = h7
each_of_eight P h0 h1 h2 h3 h4 h5 h6 h7 (suc (suc (suc (suc (suc (suc (suc (suc k)))))))) lt = absurd (omega arith)

-- bytes of the same bits
pub same_bits : (f g : ℕ → ℕ) → ((k : ℕ) → k < 8 → f k ≡ g k) → byte_of f ≡ byte_of g
same_bits f g h = λ i.
    h 0 (lit< tt) i + 2 * h 1 (lit< tt) i + 4 * h 2 (lit< tt) i + 8 * h 3 (lit< tt) i
    + 16 * h 4 (lit< tt) i + 32 * h 5 (lit< tt) i + 64 * h 6 (lit< tt) i + 128 * h 7 (lit< tt) i

pub byte_of-lt : (f : ℕ → ℕ) → ((k : ℕ) → f k < 2) → byte_of f < 256
byte_of-lt f h = omega (arith, h 0, h 1, h 2, h 3, h 4, h 5, h 6, h 7)

-- a byte is made of its bits
pub byte_of_bits : (byte : ℕ) → byte < 256 → byte_of (bit_at byte) ≡ byte
byte_of_bits byte lt = omega arith

-- bit k of the byte with the bits f
pub bit_at-byte_of : (f : ℕ → ℕ) → ((k : ℕ) → f k < 2) → (k : ℕ) → k < 8 → bit_at (byte_of f) k ≡ f k
bit_at-byte_of f h = each_of_eight (λ k. bit_at (byte_of f) k ≡ f k)
    (omega (arith, h 0, h 1, h 2, h 3, h 4, h 5, h 6, h 7))
    (omega (arith, h 0, h 1, h 2, h 3, h 4, h 5, h 6, h 7))
    (omega (arith, h 0, h 1, h 2, h 3, h 4, h 5, h 6, h 7))
    (omega (arith, h 0, h 1, h 2, h 3, h 4, h 5, h 6, h 7))
    (omega (arith, h 0, h 1, h 2, h 3, h 4, h 5, h 6, h 7))
    (omega (arith, h 0, h 1, h 2, h 3, h 4, h 5, h 6, h 7))
    (omega (arith, h 0, h 1, h 2, h 3, h 4, h 5, h 6, h 7))
    (omega (arith, h 0, h 1, h 2, h 3, h 4, h 5, h 6, h 7))

-- ---- the sum of two bytes

pub byte_of-xor : (f g : ℕ → ℕ) → ((k : ℕ) → f k < 2) → ((k : ℕ) → g k < 2) → byte_of (λ k. (f k + g k) % 2) ≡ bit_xor (byte_of f) (byte_of g)
byte_of-xor f g hf hg =
    same_from_bits_below 8 (byte_of (λ k. (f k + g k) % 2)) (bit_xor (byte_of f) (byte_of g))
    (byte_of-lt (λ k. (f k + g k) % 2) below) (xor_of_8 (byte_of f) (byte_of g) (byte_of-lt f hf) (byte_of-lt g hg))
    (λ k lt. bit_at-byte_of (λ k. (f k + g k) % 2) below k lt
    ∙ sym (bit_at_xor (byte_of f) (byte_of g) k ∙ (λ i. (bit_at-byte_of f hf k lt i + bit_at-byte_of g hg k lt i) % 2)))
  where
    below : (k : ℕ) → (f k + g k) % 2 < 2
    below k = omega arith

-- ---- x times a byte

-- the bits of the double of the byte with the bits f: each goes up by one, and where bit 7 was set
-- the modulus is taken away
abbrev pub doubled_bits : (ℕ → ℕ) → ℕ
doubled_bits f =
    f 7 + 2 * ((f 0 + f 7) % 2) + 4 * f 1 + 8 * ((f 2 + f 7) % 2) + 16 * ((f 3 + f 7) % 2)
    + 32 * f 4 + 64 * f 5 + 128 * f 6

product_two-bits : (n : ℕ) → n < 256 → product 2 n ≡ doubled_bits (bit_at n)
unfolding product polynomial_product remainder
product_two-bits = same_below 256 (λ n. product 2 n) (λ n. doubled_bits (bit_at n)) refl

pub product_two-byte_of : (f : ℕ → ℕ) → ((k : ℕ) → f k < 2) → doubled_bits f ≡ product 2 (byte_of f)
product_two-byte_of f h =
    let e : (k : ℕ) → k < 8 → bit_at (byte_of f) k ≡ f k = bit_at-byte_of f h in
    sym (product_two-bits (byte_of f) (byte_of-lt f h) ∙ (λ i.
    e 7 (lit< tt) i + 2 * ((e 0 (lit< tt) i + e 7 (lit< tt) i) % 2) + 4 * e 1 (lit< tt) i
    + 8 * ((e 2 (lit< tt) i + e 7 (lit< tt) i) % 2) + 16 * ((e 3 (lit< tt) i + e 7 (lit< tt) i) % 2)
    + 32 * e 4 (lit< tt) i + 64 * e 5 (lit< tt) i + 128 * e 6 (lit< tt) i))
