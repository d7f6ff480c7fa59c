-- The product of two elements of the field of 16 from three products of their halves.
use Rattle.std.proofs.Common.{◌≡◌, ℕ, zero, suc, ◌+◌, ◌*◌, ◌%◌, ◌<◌, List, refl, ◌∙◌}
use Rattle.kr_aes.specs.Field.{polynomial_product, remainder}
use Rattle.kr_aes_bitsliced.specs.declared.nibbles.Nibbles.{Nibbles}
use Rattle.kr_aes_bitsliced.specs.inner.Nibbles.{bit_in, nibble_at, nibble_product}
use Rattle.kr_aes_bitsliced.proofs.Gates.{Gate, ◌⊕◌, In, bits, same_at_bits}
use Rattle.kr_aes_bitsliced.proofs.NibbleGates.{first, nibble_at-by, nibbles_by, number_by, pair, second}
use Rattle.kr_aes_bitsliced.proofs.PlaneSums.{IsPlane}

-- ---- one product of halves

-- the planes of its three coefficients
abbrev pub ThreePlanes : Type 0
ThreePlanes = List ℕ × List ℕ × List ℕ

-- at one bit they are those of x + y X times z + w X
pub record IsHalfProduct (planes : ThreePlanes) (b p x y z w : ℕ) : Type 0 where
  pub are : IsPlane planes.0 × IsPlane planes.1 × IsPlane planes.2
  pub low : bit_in planes.0 b p ≡ x * z
  pub middle : bit_in planes.1 b p ≡ (x * w + y * z) % 2
  pub high : bit_in planes.2 b p ≡ y * w

pub IsHalfProduct-same : (planes : ThreePlanes) (b p : ℕ) {x y z w x' y' z' w' : ℕ}
    → IsHalfProduct planes b p x y z w → x ≡ x' → y ≡ y' → z ≡ z' → w ≡ w'
    → IsHalfProduct planes b p x' y' z' w'
IsHalfProduct-same planes b p is ex ey ez ew = record {
  are = is.are;
  low = is.low ∙ (λ i. ex i * ez i);
  middle = is.middle ∙ (λ i. (ex i * ew i + ey i * ez i) % 2);
  high = is.high ∙ (λ i. ey i * ew i);
}

-- ---- the three, of the low halves, the high ones and the sums of the two

-- plane k of the nine
abbrev pub plane_of_halves : ThreePlanes → ThreePlanes → ThreePlanes → ℕ → List ℕ
plane_of_halves l h m zero = l.0
plane_of_halves l h m (suc zero) = l.1
plane_of_halves l h m (suc (suc zero)) = l.2
plane_of_halves l h m (suc (suc (suc zero))) = h.0
plane_of_halves l h m (suc (suc (suc (suc zero)))) = h.1
plane_of_halves l h m (suc (suc (suc (suc (suc zero))))) = h.2
plane_of_halves l h m (suc (suc (suc (suc (suc (suc zero)))))) = m.0
plane_of_halves l h m (suc (suc (suc (suc (suc (suc (suc zero))))))) = m.1
plane_of_halves l h m (suc (suc (suc (suc (suc (suc (suc (suc k)))))))) = m.2

-- its bit, of the bits of both elements
abbrev bit_of_halves : (ℕ → ℕ) → ℕ → ℕ
bit_of_halves x zero = x 0 * x 4
bit_of_halves x (suc zero) = (x 0 * x 5 + x 1 * x 4) % 2
bit_of_halves x (suc (suc zero)) = x 1 * x 5
bit_of_halves x (suc (suc (suc zero))) = x 2 * x 6
bit_of_halves x (suc (suc (suc (suc zero)))) = (x 2 * x 7 + x 3 * x 6) % 2
bit_of_halves x (suc (suc (suc (suc (suc zero))))) = x 3 * x 7
bit_of_halves x (suc (suc (suc (suc (suc (suc zero)))))) = (x 0 + x 2) % 2 * ((x 4 + x 6) % 2)
bit_of_halves x (suc (suc (suc (suc (suc (suc (suc zero))))))) =
    ((x 0 + x 2) % 2 * ((x 5 + x 7) % 2) + (x 1 + x 3) % 2 * ((x 4 + x 6) % 2)) % 2
bit_of_halves x (suc (suc (suc (suc (suc (suc (suc (suc k)))))))) =
    (x 1 + x 3) % 2 * ((x 5 + x 7) % 2)

pub record AreHalfProducts (l h m : ThreePlanes) (b p : ℕ) (x : ℕ → ℕ) : Type 0 where
  pub low : IsHalfProduct l b p (x 0) (x 1) (x 4) (x 5)
  pub high : IsHalfProduct h b p (x 2) (x 3) (x 6) (x 7)
  pub sums : IsHalfProduct m b p
      ((x 0 + x 2) % 2) ((x 1 + x 3) % 2) ((x 4 + x 6) % 2) ((x 5 + x 7) % 2)

abbrev HasBit : List ℕ → ℕ → ℕ → ℕ → Type 0
HasBit plane b p x = IsPlane plane × (bit_in plane b p ≡ x)

halves_at : (l h m : ThreePlanes) (b p : ℕ) (x : ℕ → ℕ) → AreHalfProducts l h m b p x
    → (k : ℕ) → HasBit (plane_of_halves l h m k) b p (bit_of_halves x k)
halves_at l h m b p x are zero = (are.low.are.0, are.low.low)
halves_at l h m b p x are (suc zero) = (are.low.are.1, are.low.middle)
halves_at l h m b p x are (suc (suc zero)) = (are.low.are.2, are.low.high)
halves_at l h m b p x are (suc (suc (suc zero))) = (are.high.are.0, are.high.low)
halves_at l h m b p x are (suc (suc (suc (suc zero)))) = (are.high.are.1, are.high.middle)
halves_at l h m b p x are (suc (suc (suc (suc (suc zero))))) = (are.high.are.2, are.high.high)
halves_at l h m b p x are (suc (suc (suc (suc (suc (suc zero)))))) =
    (are.sums.are.0, are.sums.low)
halves_at l h m b p x are (suc (suc (suc (suc (suc (suc (suc zero))))))) =
    (are.sums.are.1, are.sums.middle)
halves_at l h m b p x are (suc (suc (suc (suc (suc (suc (suc (suc k)))))))) =
    (are.sums.are.2, are.sums.high)

-- ---- the product

abbrev upper : Gate
upper = In 3 ⊕ In 8 ⊕ In 2 ⊕ In 5

abbrev pub product_gate : ℕ → Gate
product_gate zero = In 0 ⊕ upper
product_gate (suc zero) = In 1 ⊕ upper ⊕ In 4
product_gate (suc (suc zero)) = In 2 ⊕ In 6 ⊕ In 0 ⊕ In 3 ⊕ In 4 ⊕ In 5
product_gate (suc (suc (suc k))) = In 7 ⊕ In 1 ⊕ In 4 ⊕ In 5

pub product_at : (l h m : ThreePlanes) (a b : Nibbles) (block p : ℕ)
    → AreHalfProducts l h m block p (bits (pair a b) block p) → block < 8 → p < 16
    → nibble_at (nibbles_by (plane_of_halves l h m) product_gate) block p
    ≡ nibble_product (nibble_at a block p) (nibble_at b block p)
unfolding nibble_at nibble_product polynomial_product remainder
product_at l h m a b block p are small lt =
    let x : ℕ → ℕ = bits (pair a b) block p in
    let at : (k : ℕ) → HasBit (plane_of_halves l h m k) block p (bit_of_halves x k) =
    halves_at l h m block p x are in
    nibble_at-by (plane_of_halves l h m) (bit_of_halves x) block p
    (λ k. (at k).0) (λ k. (at k).1) small lt product_gate
    ∙ same_at_bits (λ x. number_by (bit_of_halves x) product_gate)
    (λ x. nibble_product (first x) (second x)) refl (pair a b) block p
