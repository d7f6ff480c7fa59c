-- GHASH (SP 800-38D, sections 6.3 and 6.4). Its blocks stand for polynomials over two elements,
-- which are numbers here: bit i of the number is the coefficient of x^i. Their sum is the exclusive
-- or.
use Rattle.std.specs.Prelude.{◌≡◌, ℕ, ◌+◌, ◌-◌, ◌/◌, ◌%◌, ◌^◌, ◌<◌, List, [], ◌∷◌, bit_xor, slice_index}
use Rattle.std.specs.Int.{w128, bit_at, from_be_bytes, reverse_bits, to_be_bytes}
use Rattle.kr_aes.specs.Cipher.{IsBlock}
use Rattle.kr_aes.specs.Field.{polynomial_product, remainder}
use Rattle.kr_modes.specs.Blocks.{blocks}

-- the leftmost bit of the first byte is the coefficient of x^0 (6.3)
unfoldable pub polynomial : List ℕ → ℕ
polynomial block = reverse_bits w128 (from_be_bytes w128 block)

-- the block that stands for a polynomial
unfoldable pub polynomial_block : ℕ → List ℕ
polynomial_block p = to_be_bytes w128 (reverse_bits w128 p)

-- x^128 + x^7 + x^2 + x + 1 (6.3)
abbrev pub modulus : ℕ
modulus = 2 ^ 128 + 0x87

-- the product of two blocks (6.3)
unfoldable pub product : ℕ → ℕ → ℕ
product a b = remainder modulus 128 127 (polynomial_product 128 a b)

-- each block is added to the value y, and the sum is multiplied by h, from the first block on (6.4)
unfoldable pub ghash_blocks : ℕ → ℕ → List (List ℕ) → ℕ
ghash_blocks h y [] = y
ghash_blocks h y (block ∷ rest) = ghash_blocks h (product (bit_xor y (polynomial block)) h) rest

-- the hash of a string of whole blocks under the hash subkey H, a block (6.4)
unfoldable pub ghash : List ℕ → List ℕ → List ℕ
ghash subkey bytes = polynomial_block (ghash_blocks (polynomial subkey) 0 (blocks bytes))

-- ---- laws: the bits of a block, of which bit 0 is the leftmost of the first byte, are the
-- coefficients of its polynomial; that stands for no other block; and the product is linear in each
-- operand

abbrev pub BitsAreCoefficients : Type 0
BitsAreCoefficients = (block : List ℕ) (i : ℕ) → IsBlock block → i < 128
    → bit_at (polynomial block) i ≡ bit_at (slice_index block (i / 8)) (7 - i % 8)

abbrev pub BlockOfPolynomial : Type 0
BlockOfPolynomial = (block : List ℕ) → IsBlock block → polynomial_block (polynomial block) ≡ block

abbrev pub ProductIsLinear : Type 0
ProductIsLinear = (a b c : ℕ) → (product a (bit_xor b c) ≡ bit_xor (product a b) (product a c))
    × (product (bit_xor a b) c ≡ bit_xor (product a c) (product b c))
