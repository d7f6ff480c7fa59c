-- Planes that are sums of planes, and the double of planes.
use Rattle.std.proofs.Common.{◌≡◌, ℕ, ◌+◌, ◌%◌, ◌<◌, List, length, slice_index, bit_xor, sym, ap, ◌∙◌, arith}
use Rattle.std.specs.Int.{bit_at}
use Rattle.std.specs.Simd.Lanes.{zip2}
use Rattle.std.proofs.lemmas.Nat.{xor_of_8}
use Rattle.std.proofs.lemmas.Nat.Bits.{bit_at_xor, bit_at-lt}
use Rattle.std.proofs.lemmas.Simd.{get_or-zip2, length-zip2}
use Rattle.kr_aes_bitsliced.specs.declared.planes.Planes.{Planes}
use Rattle.kr_aes_bitsliced.specs.inner.Planes.{plane, sliced_byte}
use Rattle.kr_aes_bitsliced.proofs.ByteBits.{byte_of-xor, same_bits}

-- 16 bytes
pub record IsPlane (plane : List ℕ) : Type 0 where
  pub size : length plane ≡ 16
  pub bytes : (p : ℕ) → p < 16 → slice_index plane p < 256

-- eight planes of 16 bytes, as each value of the type is
pub record ArePlanes (planes : Planes) : Type 0 where
  pub sizes : (k : ℕ) → k < 8 → length (plane planes k) ≡ 16
  pub bytes : (k p : ℕ) → k < 8 → p < 16 → slice_index (plane planes k) p < 256

pub plane_of : (planes : Planes) → ArePlanes planes → (k : ℕ) → k < 8 → IsPlane (plane planes k)
plane_of planes are k lt = record { size = are.sizes k lt; bytes = λ p. are.bytes k p lt }

pub planes_from : (planes : Planes) → ((k : ℕ) → k < 8 → IsPlane (plane planes k)) → ArePlanes planes
planes_from planes h = record { sizes = λ k lt. (h k lt).size; bytes = λ k p lt. (h k lt).bytes p }

-- ---- the sum of two planes

pub xor_at : (xs ys : List ℕ) → IsPlane xs → IsPlane ys → (p : ℕ) → p < 16 → slice_index (zip2 bit_xor xs ys) p ≡ bit_xor (slice_index xs p) (slice_index ys p)
xor_at xs ys hx hy p lt = get_or-zip2 bit_xor xs ys p 0 0 0 (omega (arith, hx.size)) (omega (arith, hy.size))

pub xor_plane : (xs ys : List ℕ) → IsPlane xs → IsPlane ys → IsPlane (zip2 bit_xor xs ys)
xor_plane xs ys hx hy = record {
  size = length-zip2 bit_xor xs ys (hx.size ∙ sym hy.size) ∙ hx.size;
  bytes = λ p lt. rw (xor_at xs ys hx hy p lt) (xor_of_8 _ _ (hx.bytes p lt) (hy.bytes p lt));
}

pub xor_bit : (xs ys : List ℕ) → IsPlane xs → IsPlane ys → (b p : ℕ) → p < 16 → bit_at (slice_index (zip2 bit_xor xs ys) p) b ≡ (bit_at (slice_index xs p) b + bit_at (slice_index ys p) b) % 2
xor_bit xs ys hx hy b p lt =
    ap (λ (x : ℕ). bit_at x b) (xor_at xs ys hx hy p lt) ∙ bit_at_xor (slice_index xs p) (slice_index ys p) b

-- ---- the sums of planes

abbrev pub AreSums : Planes → Planes → Planes → Type 0
AreSums planes others result =
    (k : ℕ) → k < 8 → plane result k ≡ zip2 bit_xor (plane planes k) (plane others k)

pub sums_bytes : (planes others result : Planes) → ArePlanes planes → ArePlanes others → AreSums planes others result
    → (b p : ℕ) → p < 16 → sliced_byte result b p ≡ bit_xor (sliced_byte planes b p) (sliced_byte others b p)
unfolding sliced_byte
sums_bytes planes others result mine theirs sums b p hp =
    same_bits (λ k. bit_at (slice_index (plane result k) p) b) (λ k. (bit_at (slice_index (plane planes k) p) b + bit_at (slice_index (plane others k) p) b) % 2)
    (λ k lt. ap (λ (xs : List ℕ). bit_at (slice_index xs p) b) (sums k lt) ∙ xor_bit (plane planes k) (plane others k) (plane_of planes mine k lt) (plane_of others theirs k lt) b p hp)
    ∙ byte_of-xor (λ k. bit_at (slice_index (plane planes k) p) b) (λ k. bit_at (slice_index (plane others k) p) b)
    (λ k. bit_at-lt (slice_index (plane planes k) p) b) (λ k. bit_at-lt (slice_index (plane others k) p) b)
