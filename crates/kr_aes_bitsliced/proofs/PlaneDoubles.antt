-- The double of planes: each goes up by one, and where bit 7 was set the modulus is taken away.
use Rattle.std.proofs.Common.{◌≡◌, ℕ, ◌+◌, ◌*◌, ◌%◌, ◌<◌, slice_index, bit_xor, ◌∙◌, lit<}
use Rattle.std.specs.Int.{bit_at}
use Rattle.std.specs.Simd.Lanes.{zip2}
use Rattle.std.proofs.lemmas.Nat.Bits.{bit_at-lt}
use Rattle.kr_aes.specs.Field.{product}
use Rattle.kr_aes_bitsliced.specs.declared.planes.Planes.{Planes}
use Rattle.kr_aes_bitsliced.specs.inner.Planes.{plane, sliced_byte}
use Rattle.kr_aes_bitsliced.proofs.ByteBits.{product_two-byte_of}
use Rattle.kr_aes_bitsliced.proofs.PlaneSums.{ArePlanes, IsPlane, plane_of, xor_bit}

abbrev doubles : Planes → Planes
doubles planes = record {
  p0 = planes.p7;
  p1 = zip2 bit_xor planes.p0 planes.p7;
  p2 = planes.p1;
  p3 = zip2 bit_xor planes.p2 planes.p7;
  p4 = zip2 bit_xor planes.p3 planes.p7;
  p5 = planes.p4;
  p6 = planes.p5;
  p7 = planes.p6;
}

pub doubles_bytes : (planes : Planes) → ArePlanes planes → (b p : ℕ) → p < 16 → sliced_byte (doubles planes) b p ≡ product 2 (sliced_byte planes b p)
unfolding sliced_byte
doubles_bytes planes are b p lt =
    let each : (k : ℕ) → k < 8 → IsPlane (plane planes k) = plane_of planes are in
    let bit = λ (k : ℕ). bit_at (slice_index (plane planes k) p) b in
    let e1 : bit_at (slice_index (zip2 bit_xor planes.p0 planes.p7) p) b ≡ (bit 0 + bit 7) % 2 = xor_bit planes.p0 planes.p7 (each 0 (lit< tt)) (each 7 (lit< tt)) b p lt in
    let e3 : bit_at (slice_index (zip2 bit_xor planes.p2 planes.p7) p) b ≡ (bit 2 + bit 7) % 2 = xor_bit planes.p2 planes.p7 (each 2 (lit< tt)) (each 7 (lit< tt)) b p lt in
    let e4 : bit_at (slice_index (zip2 bit_xor planes.p3 planes.p7) p) b ≡ (bit 3 + bit 7) % 2 = xor_bit planes.p3 planes.p7 (each 3 (lit< tt)) (each 7 (lit< tt)) b p lt in
    (λ i. bit 7 + 2 * e1 i + 4 * bit 1 + 8 * e3 i + 16 * e4 i + 32 * bit 4 + 64 * bit 5 + 128 * bit 6)
    ∙ product_two-byte_of bit (λ k. bit_at-lt (slice_index (plane planes k) p) b)
