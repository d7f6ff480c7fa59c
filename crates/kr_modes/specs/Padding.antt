-- The padding of PKCS #7 (RFC 5652, section 6.3) for blocks of 16 bytes.
use Rattle.std.specs.Prelude.{◌≡◌, ◌↔◌, ℕ, ◌-◌, ◌%◌, List, ◌++◌, length, map, replicate, take, find, Option, Some, bytes_eq}
use Rattle.std.specs.List.{range_with_len}

-- how many bytes are appended: 16 minus the length modulo 16, and so 1 to 16
abbrev pub padding : List ℕ → ℕ
padding bytes = 16 - length bytes % 16

-- each of them has that number as its value
unfoldable pub pad : List ℕ → List ℕ
pad bytes = bytes ++ replicate (padding bytes) (padding bytes)

-- the shorter strings that a string begins with
abbrev pub shorter_fronts : List ℕ → List (List ℕ)
shorter_fronts bytes = map (λ size. take size bytes) (range_with_len 0 (length bytes))

-- the plain bytes whose padding gives these, which can only be a front of them, and nothing where
-- there are none
unfoldable pub unpad : List ℕ → Option (List ℕ)
unpad bytes = find (λ plain. bytes_eq (pad plain) bytes) (shorter_fronts bytes)

-- ---- a law for a reader: that is the inverse of `pad`

abbrev pub UnpadInvertsPad : Type 0
UnpadInvertsPad = (bytes plain : List ℕ) → (unpad bytes ≡ Some plain) ↔ (pad plain ≡ bytes)
