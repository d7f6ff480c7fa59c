-- Gates of planes, and what they are at one bit: what a function makes of planes is written as
-- gates of numbered inputs, its bits are these gates of the inputs' bits, and an equation of eight
-- bits is shown by computing all cases.
use Rattle.std.proofs.Common.{◌≡◌, ℕ, ◌+◌, ◌-◌, ◌%◌, ◌<◌, min, true, List, slice_index, map, bit_xor, bit_and, w8, refl, sym, ap, ◌∙◌, arith}
use Rattle.std.specs.Int.{bit_at, bit_not}
use Rattle.std.specs.Simd.Lanes.{zip2}
use lib.Bits.{and_le_r}
use Rattle.std.proofs.lemmas.List.{get_or-map, length-map}
use Rattle.std.proofs.lemmas.Nat.Bits.{bit_at-lt, bit_at_and, bit_at_not}
use Rattle.std.proofs.lemmas.Simd.{get_or-zip2, length-zip2}
use Rattle.kr_aes.specs.Cipher.{byte_of}
use Rattle.kr_aes.proofs.Cases.{agree_below, same_below}
use Rattle.kr_aes_bitsliced.specs.declared.planes.Planes.{Planes}
use Rattle.kr_aes_bitsliced.specs.inner.Nibbles.{bit_in}
use Rattle.kr_aes_bitsliced.specs.inner.Planes.{plane, sliced_byte}
use Rattle.kr_aes_bitsliced.proofs.ByteBits.{bit_at-byte_of, byte_of-lt}
use Rattle.kr_aes_bitsliced.proofs.PlaneSums.{ArePlanes, IsPlane, plane_of, xor_bit, xor_plane}

-- ---- the product of two planes, and the opposite of one

and_at : (v w : List ℕ) → IsPlane v → IsPlane w → (p : ℕ) → p < 16
    → slice_index (zip2 bit_and v w) p ≡ bit_and (slice_index v p) (slice_index w p)
and_at v w hv hw p lt = get_or-zip2 bit_and v w p 0 0 0 (omega arith) (omega arith)

and_plane : (v w : List ℕ) → IsPlane v → IsPlane w → IsPlane (zip2 bit_and v w)
and_plane v w hv hw = record {
  size = length-zip2 bit_and v w (omega arith) ∙ hv.size;
  bytes = λ p lt. rw (and_at v w hv hw p lt)
      (omega (arith, hw.bytes p lt, and_le_r (slice_index v p) (slice_index w p)));
}

and_bit : (v w : List ℕ) → IsPlane v → IsPlane w → (b p : ℕ) → p < 16
    → bit_in (zip2 bit_and v w) b p ≡ min (bit_in v b p) (bit_in w b p)
and_bit v w hv hw b p lt =
    ap (λ x. bit_at x b) (and_at v w hv hw p lt) ∙ bit_at_and (slice_index v p) (slice_index w p) b

not_at : (v : List ℕ) → IsPlane v → (p : ℕ) → p < 16
    → slice_index (map (bit_not w8) v) p ≡ bit_not w8 (slice_index v p)
not_at v hv p lt = get_or-map (bit_not w8) v p 0 0 (omega arith)

not_plane : (v : List ℕ) → IsPlane v → IsPlane (map (bit_not w8) v)
not_plane v hv = record {
  size = length-map v (bit_not w8) ∙ hv.size;
  bytes = λ p lt. rw (not_at v hv p lt) (omega arith);
}

not_bit : (v : List ℕ) → IsPlane v → (b p : ℕ) → b < 8 → p < 16
    → bit_in (map (bit_not w8) v) b p ≡ 1 - bit_in v b p
not_bit v hv b p small lt =
    ap (λ x. bit_at x b) (not_at v hv p lt)
    ∙ bit_at_not w8 (slice_index v p) b (hv.bytes p lt) small

-- ---- gates

infixl 20 ◌⊕◌
infixl 30 ◌⊗◌
pub data Gate : Type 0 where
  In : ℕ → Gate
  ◌⊕◌ : Gate → Gate → Gate
  ◌⊗◌ : Gate → Gate → Gate
  Not : Gate → Gate

-- the plane that they make of planes
abbrev pub plane_by : (ℕ → List ℕ) → Gate → List ℕ
plane_by v (In k) = v k
plane_by v (g ⊕ h) = zip2 bit_xor (plane_by v g) (plane_by v h)
plane_by v (g ⊗ h) = zip2 bit_and (plane_by v g) (plane_by v h)
plane_by v (Not g) = map (bit_not w8) (plane_by v g)

-- the bit that they make of bits
abbrev pub bit_by : (ℕ → ℕ) → Gate → ℕ
bit_by x (In k) = x k
bit_by x (g ⊕ h) = (bit_by x g + bit_by x h) % 2
bit_by x (g ⊗ h) = min (bit_by x g) (bit_by x h)
bit_by x (Not g) = 1 - bit_by x g

IsPlane-by : (v : ℕ → List ℕ) → ((k : ℕ) → IsPlane (v k)) → (g : Gate) → IsPlane (plane_by v g)
IsPlane-by v h (In k) = h k
IsPlane-by v h (g ⊕ i) =
    xor_plane (plane_by v g) (plane_by v i) (IsPlane-by v h g) (IsPlane-by v h i)
IsPlane-by v h (g ⊗ i) =
    and_plane (plane_by v g) (plane_by v i) (IsPlane-by v h g) (IsPlane-by v h i)
IsPlane-by v h (Not g) = not_plane (plane_by v g) (IsPlane-by v h g)

pub bit_in-by : (v : ℕ → List ℕ) (x : ℕ → ℕ) (b p : ℕ) → ((k : ℕ) → IsPlane (v k))
    → ((k : ℕ) → bit_in (v k) b p ≡ x k) → b < 8 → p < 16 → (g : Gate)
    → bit_in (plane_by v g) b p ≡ bit_by x g
bit_in-by v x b p h at small lt (In k) = at k
bit_in-by v x b p h at small lt (g ⊕ i) =
    let left : bit_in (plane_by v g) b p ≡ bit_by x g = bit_in-by v x b p h at small lt g in
    let right : bit_in (plane_by v i) b p ≡ bit_by x i = bit_in-by v x b p h at small lt i in
    xor_bit (plane_by v g) (plane_by v i) (IsPlane-by v h g) (IsPlane-by v h i) b p lt
    ∙ (λ m. (left m + right m) % 2)
bit_in-by v x b p h at small lt (g ⊗ i) =
    let left : bit_in (plane_by v g) b p ≡ bit_by x g = bit_in-by v x b p h at small lt g in
    let right : bit_in (plane_by v i) b p ≡ bit_by x i = bit_in-by v x b p h at small lt i in
    and_bit (plane_by v g) (plane_by v i) (IsPlane-by v h g) (IsPlane-by v h i) b p lt
    ∙ (λ m. min (left m) (right m))
bit_in-by v x b p h at small lt (Not g) =
    not_bit (plane_by v g) (IsPlane-by v h g) b p small lt
    ∙ ap (λ m. 1 - m) (bit_in-by v x b p h at small lt g)

-- ---- equations of eight bits

-- the bits x, of which the last stands for all further ones too
abbrev pub eight : (ℕ → ℕ) → ℕ → ℕ
eight x k = x (min k 7)

-- the bits of byte p of block b
abbrev pub bits : Planes → ℕ → ℕ → ℕ → ℕ
bits q b p = eight (λ k. bit_in (plane q k) b p)

-- two functions of the bits agree if they do at each byte's
pub same_at_bits : (f g : (ℕ → ℕ) → ℕ)
    → agree_below (λ n. f (eight (bit_at n))) (λ n. g (eight (bit_at n))) 256 ≡ true
    → (q : Planes) (b p : ℕ) → f (bits q b p) ≡ g (bits q b p)
same_at_bits f g all q b p =
    let x : ℕ → ℕ = λ k. bit_in (plane q k) b p in
    let below : (k : ℕ) → x k < 2 = λ k. bit_at-lt (slice_index (plane q k) p) b in
    let at : eight (bit_at (byte_of x)) ≡ eight x =
    λ i k. bit_at-byte_of x below (min k 7) (omega arith) i in
    let f_at : ℕ → ℕ = λ n. f (eight (bit_at n)) in
    let g_at : ℕ → ℕ = λ n. g (eight (bit_at n)) in
    sym (ap f at) ∙ same_below 256 f_at g_at all (byte_of x) (byte_of-lt x below) ∙ ap g at

-- ---- gates of the planes of eight blocks

abbrev pub inputs : Planes → ℕ → List ℕ
inputs q k = plane q (min k 7)

pub inputs_are : (q : Planes) → ArePlanes q → (k : ℕ) → IsPlane (inputs q k)
inputs_are q h k = plane_of q h (min k 7) (omega arith)

pub output_bit : (q : Planes) (b p : ℕ) → ArePlanes q → b < 8 → p < 16 → (g : Gate)
    → bit_in (plane_by (inputs q) g) b p ≡ bit_by (bits q b p) g
output_bit q b p h = bit_in-by (inputs q) (bits q b p) b p (inputs_are q h) (λ k. refl)

-- a plane that a gate makes
pub bit_by_gate : (g : Gate) (f : (ℕ → ℕ) → ℕ)
    → agree_below (λ n. bit_by (eight (bit_at n)) g) (λ n. f (eight (bit_at n))) 256 ≡ true
    → (q : Planes) (b p : ℕ) → ArePlanes q → b < 8 → p < 16
    → bit_in (plane_by (inputs q) g) b p ≡ f (bits q b p)
bit_by_gate g f all q b p h small lt =
    output_bit q b p h small lt g ∙ same_at_bits (λ x. bit_by x g) f all q b p

-- eight planes that gates make
abbrev pub planes_by : (ℕ → List ℕ) → (ℕ → Gate) → Planes
planes_by v g = record {
  p0 = plane_by v (g 0);
  p1 = plane_by v (g 1);
  p2 = plane_by v (g 2);
  p3 = plane_by v (g 3);
  p4 = plane_by v (g 4);
  p5 = plane_by v (g 5);
  p6 = plane_by v (g 6);
  p7 = plane_by v (g 7);
}

abbrev pub byte_by : (ℕ → ℕ) → (ℕ → Gate) → ℕ
byte_by x g = byte_of (λ k. bit_by x (g k))

pub byte_by_gates : (g : ℕ → Gate) (f : (ℕ → ℕ) → ℕ)
    → agree_below (λ n. byte_by (eight (bit_at n)) g) (λ n. f (eight (bit_at n))) 256 ≡ true
    → (q : Planes) (b p : ℕ) → ArePlanes q → b < 8 → p < 16
    → sliced_byte (planes_by (inputs q) g) b p ≡ f (bits q b p)
unfolding sliced_byte
byte_by_gates g f all q b p h small lt =
    let bit : (k : ℕ) → bit_in (plane_by (inputs q) (g k)) b p ≡ bit_by (bits q b p) (g k) =
    λ k. output_bit q b p h small lt (g k) in
    (λ i. byte_of (λ k. bit k i)) ∙ same_at_bits (λ x. byte_by x g) f all q b p
