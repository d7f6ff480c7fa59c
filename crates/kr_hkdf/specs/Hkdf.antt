-- HKDF-Expand (RFC 5869, section 2.3) with HMAC-SHA256, so HashLen is 32. Strings of octets are
-- lists of bytes.
use Rattle.std.specs.Prelude.{ℕ, zero, suc, List, [], ◌∷◌, ◌++◌, take}
use Rattle.std.specs.Int.{div_ceil}
use Rattle.std.specs.List.{flat_map, range_with_len}
use Rattle.kr_hkdf.specs.Hmac.{hmac}

-- T(n): T(0) is the empty string, and T(n) is HMAC-Hash(PRK, T(n-1) | info | n), with n, which goes
-- up to 255, as a single octet
unfoldable pub output_block : List ℕ → List ℕ → ℕ → List ℕ
output_block prk info zero = []
output_block prk info (suc n) = hmac prk (output_block prk info n ++ info ++ suc n ∷ [])

-- T(1) | T(2) | .. | T(n)
abbrev pub output_blocks : List ℕ → List ℕ → ℕ → List ℕ
output_blocks prk info n = flat_map (output_block prk info) (range_with_len 1 n)

-- OKM: the first L = size octets of T(1) | T(2) | .. | T(N), where N is L / HashLen, rounded up
unfoldable pub hkdf_expand : List ℕ → List ℕ → ℕ → List ℕ
hkdf_expand prk info size = take size (output_blocks prk info (div_ceil size 32))
