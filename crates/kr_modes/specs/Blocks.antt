-- Strings of bytes as lists, cut into blocks of 16 bytes, which is the block size of AES
-- (FIPS 197, as updated in 2023, section 5).
use Rattle.std.specs.Prelude.{ℕ, List, [], ◌∷◌, length, map, bit_xor}
use Rattle.std.specs.Fork.{slice_chunk}
use Rattle.std.specs.Int.{div_ceil}
use Rattle.std.specs.List.{range_with_len}

-- the blocks of a string, in order; the last one is shorter where 16 doesn't divide the length
unfoldable pub blocks : List ℕ → List (List ℕ)
blocks bytes = map (slice_chunk bytes 16) (range_with_len 0 (div_ceil (length bytes) 16))

-- the exclusive or of two strings, byte by byte, as far as both go
unfoldable pub xor : List ℕ → List ℕ → List ℕ
xor [] ys = []
xor (x ∷ xs) [] = []
xor (x ∷ xs) (y ∷ ys) = bit_xor x y ∷ xor xs ys
