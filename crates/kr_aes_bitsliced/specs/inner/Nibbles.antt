-- The field of 16 elements, of polynomials over two elements modulo x^4 + x + 1, and the bytes as
-- pairs of its elements. An element is a number below 16 whose bit i is the coefficient of x^i, and
-- the sum of two is `bit_xor`.
use Rattle.std.specs.Prelude.{ℕ, ◌+◌, ◌*◌, ◌==◌, List, slice_index, bit_xor, find, unwrap_or}
use Rattle.std.specs.Int.{bit_at}
use Rattle.std.specs.List.{range_with_len}
use Rattle.kr_aes.specs.Field.{polynomial_product, product, remainder}
use Rattle.kr_aes_bitsliced.specs.declared.nibbles.Nibbles.{Nibbles}

unfoldable pub nibble_product : ℕ → ℕ → ℕ
nibble_product a b = remainder 0x13 4 3 (polynomial_product 4 a b)

-- the element whose product with a is 1, and 0 for 0, which has none
unfoldable pub nibble_inverse : ℕ → ℕ
nibble_inverse a = unwrap_or (find (λ c. nibble_product a c == 1) (range_with_len 0 16)) 0

-- ---- the field of 256 elements (FIPS 197 section 4) over it

-- an element as a byte: e1 hex, a root of x^4 + x + 1, stands for x
unfoldable pub embedded : ℕ → ℕ
embedded a =
    bit_xor (bit_xor (bit_xor
    (bit_at a 0)
    (bit_at a 1 * 0xe1))
    (bit_at a 2 * product 0xe1 0xe1))
    (bit_at a 3 * product 0xe1 (product 0xe1 0xe1))

-- h z + l, where z is 43 hex, whose square is the sum of z and of the element 10
unfoldable pub byte_of_pair : ℕ → ℕ → ℕ
byte_of_pair h l = bit_xor (product (embedded h) 0x43) (embedded l)

-- ---- on planes

-- bit b of byte p
abbrev pub bit_in : List ℕ → ℕ → ℕ → ℕ
bit_in plane b p = bit_at (slice_index plane p) b

-- byte p's element of block b: plane k has bit k
unfoldable pub nibble_at : Nibbles → ℕ → ℕ → ℕ
nibble_at nibbles b p =
    bit_in nibbles.0 b p + 2 * bit_in nibbles.1 b p
    + 4 * bit_in nibbles.2 b p + 8 * bit_in nibbles.3 b p
