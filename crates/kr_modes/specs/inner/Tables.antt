-- GHASH by tables: 32 tables of 16 blocks, for the 32 groups of four coefficients of a factor.
use Rattle.std.specs.Prelude.{◌≡◌, ℕ, ◌+◌, ◌*◌, ◌^◌, ◌<◌, List, [], bit_xor, get_or, slice_index}
use Rattle.std.specs.Int.{w128, bit_at, to_le_bytes}
use Rattle.kr_aes.specs.Field.{remainder}
use Rattle.kr_modes.specs.Ghash.{modulus, polynomial}

-- the polynomial that the block of a number's bytes, the lowest first, stands for
unfoldable pub polynomial_of : ℕ → ℕ
polynomial_of n = polynomial (to_le_bytes w128 n)

-- a number of four bits with its bits in the other order
abbrev pub turned : ℕ → ℕ
turned v = 8 * bit_at v 0 + 4 * bit_at v 1 + 2 * bit_at v 2 + bit_at v 3

-- x to the power i, times a polynomial
unfoldable pub power : ℕ → ℕ → ℕ
power i p = remainder modulus 128 i (p * 2 ^ i)

-- x times a polynomial
abbrev pub times_x : ℕ → ℕ
times_x p = remainder modulus 128 1 (p * 2)

-- a polynomial of degree below 4, times p
unfoldable pub four_terms : ℕ → ℕ → ℕ
four_terms v p =
    let q = times_x p in
    let r = times_x q in
    let s = times_x r in
    bit_xor (bit_xor (bit_at v 0 * p) (bit_at v 1 * q)) (bit_xor (bit_at v 2 * r) (bit_at v 3 * s))

-- the tables of a hash subkey
pub record IsTableOf (products : List (List ℕ)) (subkey : ℕ) : Type 0 where
  pub fits : subkey < 2 ^ 128
  pub cells : (place v : ℕ) → place < 32 → v < 16
      → polynomial_of (slice_index (get_or products place []) v)
      ≡ four_terms (turned v) (power (4 * place) subkey)
