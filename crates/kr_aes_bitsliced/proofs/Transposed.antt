-- Three exchanges make rows columns: each changes one binary digit of a plane's number with that of
-- a bit's place.
use Rattle.std.proofs.Common.{◌≡◌, ℕ, ◌+◌, ◌*◌, ◌/◌, ◌<◌, List, slice_index, Bool, true, false, cond, nat_eq, refl, sym, ◌∙◌, arith}
use Rattle.std.specs.Int.{bit_at}
use Rattle.kr_aes.proofs.Cases.{agree_below, same_below}
use Rattle.kr_aes_bitsliced.specs.inner.Exchange.{AreApart, IsExchange}

-- ---- the three masks

-- where a place is in the mask, that above it carries nothing out of the byte and isn't in the mask
abbrev above : ℕ → ℕ → ℕ → ℕ
above shift mask place = (place + shift) / 8 + bit_at mask (place + shift)

AreApart-by_test : (shift mask : ℕ) → shift < 8
    → agree_below (λ place. bit_at mask place * above shift mask place) (λ _. 0) 8 ≡ true
    → AreApart shift mask
AreApart-by_test shift mask lt test = record {
  small = lt;
  within = λ place h has. let none = nothing place h has in omega arith;
  apart = λ place h has. let none = nothing place h has in omega arith;
}
  where
    nothing : (place : ℕ) → place < 8 → bit_at mask place ≡ 1 → above shift mask place ≡ 0
    nothing place h has =
        let product = same_below 8 (λ place. bit_at mask place * above shift mask place) (λ _. 0)
        test place h in
        let once : 1 * above shift mask place ≡ 0 = rw has at product in omega arith

pub apart_by_one : AreApart 1 85
apart_by_one = AreApart-by_test 1 85 (omega arith) refl

pub apart_by_two : AreApart 2 51
apart_by_two = AreApart-by_test 2 51 (omega arith) refl

pub apart_by_four : AreApart 4 15
apart_by_four = AreApart-by_test 4 15 (omega arith) refl

-- ---- numbers by their digits

abbrev digit : Bool → ℕ
digit b = cond b 1 0

abbrev number : Bool → Bool → Bool → ℕ
number x y z = digit x + 2 * digit y + 4 * digit z

abbrev digit_of : ℕ → ℕ → Bool
digit_of n i = nat_eq (bit_at n i) 1

-- each number below 8 has three digits
number_of_digits : (n : ℕ) → n < 8 → number (digit_of n 0) (digit_of n 1) (digit_of n 2) ≡ n
number_of_digits =
    same_below 8 (λ n. number (digit_of n 0) (digit_of n 1) (digit_of n 2)) (λ n. n) refl

pub by_digits : (P : Bool → Bool → Type 0)
    → P false false → P true false → P false true → P true true → (x y : Bool) → P x y
by_digits P a b c d false false = a
by_digits P a b c d true false = b
by_digits P a b c d false true = c
by_digits P a b c d true true = d

-- the places of the masks
in_mask_of_one : (v w : Bool) → bit_at 85 (2 * digit v + 4 * digit w) ≡ 1
in_mask_of_one = by_digits (λ v w. bit_at 85 (2 * digit v + 4 * digit w) ≡ 1) refl refl refl refl

in_mask_of_two : (u w : Bool) → bit_at 51 (digit u + 4 * digit w) ≡ 1
in_mask_of_two = by_digits (λ u w. bit_at 51 (digit u + 4 * digit w) ≡ 1) refl refl refl refl

in_mask_of_four : (u v : Bool) → bit_at 15 (digit u + 2 * digit v) ≡ 1
in_mask_of_four = by_digits (λ u v. bit_at 15 (digit u + 2 * digit v) ≡ 1) refl refl refl refl

-- ---- one exchange of eight planes, of which `f` and `g` give the old and the new

abbrev seen : (ℕ → List ℕ) → ℕ → ℕ → ℕ → ℕ
seen f k p place = bit_at (slice_index (f k) p) place

seen-same : (f : ℕ → List ℕ) (p : ℕ) {k l b c : ℕ} → k ≡ l → b ≡ c → seen f k p b ≡ seen f l p c
seen-same f p same_plane same_place = λ i. seen f (same_plane i) p (same_place i)

-- the planes with numbers k and k + shift have exchanged bits
abbrev pub Pair : ℕ → ℕ → (ℕ → List ℕ) → (ℕ → List ℕ) → ℕ → Type 0
Pair shift mask f g k = IsExchange shift mask (f k) (f (k + shift)) (g k) (g (k + shift))

module _ (s m : ℕ) (f g : ℕ → List ℕ) (k p place : ℕ) where
  -- the digit x of the plane's number and the digit u of the place
  abbrev Exchanged : Bool → Bool → Type 0
  Exchanged x u =
      seen g (k + s * digit x) p (place + s * digit u)
      ≡ seen f (k + s * digit u) p (place + s * digit x)

  digits_exchanged : Pair s m f g k → p < 16 → bit_at m place ≡ 1 → (x u : Bool) → Exchanged x u
  digits_exchanged h lt has = by_digits Exchanged
      (seen-same g p (none k) (none place)
      ∙ h.low_kept p place lt has
      ∙ sym (seen-same f p (none k) (none place)))
      (seen-same g p (once k) (none place)
      ∙ h.high_taken p place lt has
      ∙ sym (seen-same f p (none k) (once place)))
      (seen-same g p (none k) (once place)
      ∙ h.low_taken p place lt has
      ∙ sym (seen-same f p (once k) (none place)))
      (seen-same g p (once k) (once place)
      ∙ h.high_kept p place lt has
      ∙ sym (seen-same f p (once k) (once place)))
    where
      none : (n : ℕ) → n + s * 0 ≡ n
      none n = omega arith

      once : (n : ℕ) → n + s * 1 ≡ n + s
      once n = omega arith

-- the planes and the places are those of an exchange and of its digits x and u
exchanged_at : (f g : ℕ → List ℕ) (p : ℕ) → p < 16 → (s m plane place : ℕ) (x u : Bool) {k l b c : ℕ}
    → Pair s m f g plane → bit_at m place ≡ 1 → k ≡ plane + s * digit x → b ≡ place + s * digit u
    → plane + s * digit u ≡ l → place + s * digit x ≡ c → seen g k p b ≡ seen f l p c
exchanged_at f g p lt s m plane place x u pair has old_plane old_place new_plane new_place =
    seen-same g p old_plane old_place
    ∙ digits_exchanged s m f g plane p place pair lt has x u
    ∙ seen-same f p new_plane new_place

-- x, y, z are the digits of a plane's number, and u, v, w those of a place
module _ (f g : ℕ → List ℕ) (p : ℕ) (lt : p < 16) (x y z u v w : Bool) where
  by_one : Pair 1 85 f g (2 * digit y + 4 * digit z)
      → seen g (number x y z) p (number u v w) ≡ seen f (number u y z) p (number x v w)
  by_one pair = exchanged_at f g p lt 1 85 (2 * digit y + 4 * digit z) (2 * digit v + 4 * digit w) x u pair
      (in_mask_of_one v w) (omega arith) (omega arith) (omega arith) (omega arith)

  by_two : Pair 2 51 f g (digit x + 4 * digit z)
      → seen g (number x y z) p (number u v w) ≡ seen f (number x v z) p (number u y w)
  by_two pair = exchanged_at f g p lt 2 51 (digit x + 4 * digit z) (digit u + 4 * digit w) y v pair
      (in_mask_of_two u w) (omega arith) (omega arith) (omega arith) (omega arith)

  by_four : Pair 4 15 f g (digit x + 2 * digit y)
      → seen g (number x y z) p (number u v w) ≡ seen f (number x y w) p (number u v z)
  by_four pair = exchanged_at f g p lt 4 15 (digit x + 2 * digit y) (digit u + 2 * digit v) z w pair
      (in_mask_of_four u v) (omega arith) (omega arith) (omega arith) (omega arith)

-- ---- all three

pub transposed_bits : (f g h result : ℕ → List ℕ)
    → ((y z : Bool) → Pair 1 85 f g (2 * digit y + 4 * digit z))
    → ((x z : Bool) → Pair 2 51 g h (digit x + 4 * digit z))
    → ((x y : Bool) → Pair 4 15 h result (digit x + 2 * digit y))
    → (p k b : ℕ) → p < 16 → k < 8 → b < 8
    → bit_at (slice_index (result k) p) b ≡ bit_at (slice_index (f b) p) k
transposed_bits f g h result one two four p k b lt hk hb =
    let x : Bool = digit_of k 0 in
    let y : Bool = digit_of k 1 in
    let z : Bool = digit_of k 2 in
    let u : Bool = digit_of b 0 in
    let v : Bool = digit_of b 1 in
    let w : Bool = digit_of b 2 in
    sym (seen-same result p (number_of_digits k hk) (number_of_digits b hb))
    ∙ by_four h result p lt x y z u v w (four x y)
    ∙ by_two g h p lt x y w u v z (two x w)
    ∙ by_one f g p lt x v w u y z (one v w)
    ∙ seen-same f p (number_of_digits b hb) (number_of_digits k hk)
