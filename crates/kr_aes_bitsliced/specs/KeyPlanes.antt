-- The keys of a schedule as planes, by which eight blocks are ciphered or deciphered at once.
use Rattle.std.specs.Prelude.{ℕ, ◌+◌, ◌*◌, ◌/◌, ◌%◌, List, map, slice_index}
use Rattle.std.specs.Int.{bit_at}
use Rattle.std.specs.List.{range_with_len}
use Rattle.kr_aes.specs.Cipher.{word_byte}
use Rattle.kr_aes_bitsliced.specs.declared.planes.Planes.{Planes}

-- bit k of each byte of a round's key (FIPS 197 section 5.1.4): 255 where it is 1. Byte p is added
-- to the byte in row p / 4 and column p % 4 of a state
abbrev pub key_plane : List ℕ → ℕ → ℕ → List ℕ
key_plane words round k =
    map (λ p. 255 * bit_at (word_byte (slice_index words (4 * round + p % 4)) (p / 4)) k)
    (range_with_len 0 16)

-- the planes of a round's key
abbrev pub round_planes : List ℕ → ℕ → Planes
round_planes words round = record {
  p0 = key_plane words round 0;
  p1 = key_plane words round 1;
  p2 = key_plane words round 2;
  p3 = key_plane words round 3;
  p4 = key_plane words round 4;
  p5 = key_plane words round 5;
  p6 = key_plane words round 6;
  p7 = key_plane words round 7;
}

-- those of all fifteen keys that a schedule has room for
unfoldable pub key_planes : List ℕ → List Planes
key_planes words = map (round_planes words) (range_with_len 0 15)
