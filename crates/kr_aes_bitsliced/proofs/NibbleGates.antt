-- Gates of the planes of elements of the field of 16.
use Rattle.std.proofs.Common.{◌≡◌, ℕ, ◌+◌, ◌*◌, ◌<◌, true, List, refl, ◌∙◌}
use Rattle.std.specs.Int.{bit_at}
use Rattle.kr_aes.specs.Cipher.{byte_of}
use Rattle.kr_aes.proofs.Cases.{agree_below}
use Rattle.kr_aes_bitsliced.specs.declared.nibbles.Nibbles.{Nibbles}
use Rattle.kr_aes_bitsliced.specs.declared.planes.Planes.{Planes}
use Rattle.kr_aes_bitsliced.specs.inner.Nibbles.{bit_in, byte_of_pair, nibble_at}
use Rattle.kr_aes_bitsliced.specs.inner.Planes.{plane}
use Rattle.kr_aes_bitsliced.proofs.ByteBits.{each_of_eight}
use Rattle.kr_aes_bitsliced.proofs.Gates.{Gate, bit_by, bit_in-by, bits, eight, inputs, inputs_are, plane_by, same_at_bits}
use Rattle.kr_aes_bitsliced.proofs.PlaneSums.{ArePlanes, IsPlane, planes_from}

-- ---- two elements as eight planes

-- each plane has 16 bytes
pub record AreNibbles (nibbles : Nibbles) : Type 0 where
  pub n0 : IsPlane nibbles.0
  pub n1 : IsPlane nibbles.1
  pub n2 : IsPlane nibbles.2
  pub n3 : IsPlane nibbles.3

abbrev pub pair : Nibbles → Nibbles → Planes
pair a b = record {
  p0 = a.0;
  p1 = a.1;
  p2 = a.2;
  p3 = a.3;
  p4 = b.0;
  p5 = b.1;
  p6 = b.2;
  p7 = b.3;
}

pub ArePlanes-pair : (a b : Nibbles) → AreNibbles a → AreNibbles b → ArePlanes (pair a b)
ArePlanes-pair a b ha hb =
    planes_from (pair a b)
    (each_of_eight (λ k. IsPlane (plane (pair a b) k))
    ha.n0 ha.n1 ha.n2 ha.n3 hb.n0 hb.n1 hb.n2 hb.n3)

-- the element of four bits
abbrev pub number : ℕ → ℕ → ℕ → ℕ → ℕ
number x y z w = x + 2 * y + 4 * z + 8 * w

-- the two elements of eight bits
abbrev pub first : (ℕ → ℕ) → ℕ
first x = number (x 0) (x 1) (x 2) (x 3)

abbrev pub second : (ℕ → ℕ) → ℕ
second x = number (x 4) (x 5) (x 6) (x 7)

-- ---- elements that gates make

abbrev pub nibbles_by : (ℕ → List ℕ) → (ℕ → Gate) → Nibbles
nibbles_by v g = record {
  0 = plane_by v (g 0);
  1 = plane_by v (g 1);
  2 = plane_by v (g 2);
  3 = plane_by v (g 3);
}

abbrev pub number_by : (ℕ → ℕ) → (ℕ → Gate) → ℕ
number_by x g = number (bit_by x (g 0)) (bit_by x (g 1)) (bit_by x (g 2)) (bit_by x (g 3))

pub nibble_at-by : (v : ℕ → List ℕ) (x : ℕ → ℕ) (b p : ℕ) → ((k : ℕ) → IsPlane (v k))
    → ((k : ℕ) → bit_in (v k) b p ≡ x k) → b < 8 → p < 16 → (g : ℕ → Gate)
    → nibble_at (nibbles_by v g) b p ≡ number_by x g
unfolding nibble_at
nibble_at-by v x b p h at small lt g =
    let bit : (g : Gate) → bit_in (plane_by v g) b p ≡ bit_by x g =
    bit_in-by v x b p h at small lt in
    λ i. number (bit (g 0) i) (bit (g 1) i) (bit (g 2) i) (bit (g 3) i)

pub output_number : (q : Planes) (b p : ℕ) → ArePlanes q → b < 8 → p < 16 → (g : ℕ → Gate)
    → nibble_at (nibbles_by (inputs q) g) b p ≡ number_by (bits q b p) g
output_number q b p h = nibble_at-by (inputs q) (bits q b p) b p (inputs_are q h) (λ k. refl)

-- a byte that two elements which gates make give
pub byte_by_gates : (f : ℕ → ℕ) (high low : ℕ → Gate)
    → agree_below (λ n. f (byte_of_pair (number_by (eight (bit_at n)) high) (number_by (eight (bit_at n)) low))) (λ n. byte_of (eight (bit_at n))) 256 ≡ true
    → (q : Planes) (b p : ℕ) → ArePlanes q → b < 8 → p < 16
    → f (byte_of_pair (nibble_at (nibbles_by (inputs q) high) b p) (nibble_at (nibbles_by (inputs q) low) b p)) ≡ byte_of (bits q b p)
byte_by_gates f high low all q b p are small lt =
    (λ i. f (byte_of_pair (output_number q b p are small lt high i) (output_number q b p are small lt low i)))
    ∙ same_at_bits (λ x. f (byte_of_pair (number_by x high) (number_by x low))) byte_of all q b p

pub number_by_gates : (g : ℕ → Gate) (f : (ℕ → ℕ) → ℕ)
    → agree_below (λ n. number_by (eight (bit_at n)) g) (λ n. f (eight (bit_at n))) 256 ≡ true
    → (a b : Nibbles) (block p : ℕ) → AreNibbles a → AreNibbles b → block < 8 → p < 16
    → nibble_at (nibbles_by (inputs (pair a b)) g) block p ≡ f (bits (pair a b) block p)
number_by_gates g f all a b block p ha hb small lt =
    output_number (pair a b) block p (ArePlanes-pair a b ha hb) small lt g
    ∙ same_at_bits (λ x. number_by x g) f all (pair a b) block p
