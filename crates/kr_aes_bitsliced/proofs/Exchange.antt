-- The exchange of bits, byte by byte and then lane by lane.
use Rattle.std.proofs.Common.{◌≡◌, ℕ, ◌+◌, ◌-◌, ◌*◌, ◌/◌, ◌%◌, ◌^◌, ◌<◌, min, List, length, get_or, replicate, bit_and, bit_xor, refl, sym, ap, ◌∙◌, arith, inl, inr, Fits, w8}
use Rattle.std.specs.Int.{bit_at}
use Rattle.std.specs.Simd.Lanes.{Each1, zip2}
use Rattle.std.proofs.lemmas.Bool.{cases_lt}
use Rattle.std.proofs.lemmas.Nat.{pow_pos, shr-shr, shr_split}
use Rattle.std.proofs.lemmas.Nat.Bits.{bit_at_and, bit_at_xor, bit_at-lt, bit_at-zero, bit_at_above, bit_at_cat_low, bit_at_cat_high}
use Rattle.std.proofs.lemmas.Simd.{Each1-get_or, get_or-zip2, get_or-replicate, length-zip2}
use Rattle.kr_aes_bitsliced.specs.inner.Exchange.{AreApart, IsExchange}
use Rattle.kr_aes_bitsliced.proofs.PlaneSums.{IsPlane}

-- ---- shifts

bit_at_shr : (n s i : ℕ) → bit_at (n / 2 ^ s) i ≡ bit_at n (i + s)
bit_at_shr n s i =
    let turned : s + i ≡ i + s = omega arith in
    ap (λ (x : ℕ). x % 2) (shr-shr n s i) ∙ ap (bit_at n) turned

bit_at_byte : (n i : ℕ) → i < 8 → bit_at (n % 256) i ≡ bit_at n i
bit_at_byte n i lt =
    sym (bit_at_cat_low (n / 256) 8 (n % 256) i lt) ∙ ap (λ (x : ℕ). bit_at x i) (shr_split n 8)

bit_at_shl_low : (n s i : ℕ) → i < s → bit_at (n * 2 ^ s) i ≡ 0
bit_at_shl_low n s i lt =
    let whole : n * 2 ^ s + 0 ≡ n * 2 ^ s = omega arith in
    ap (λ (x : ℕ). bit_at x i) (sym whole) ∙ bit_at_cat_low n s 0 i lt ∙ bit_at-zero i

bit_at_shl_high : (n s i : ℕ) → bit_at (n * 2 ^ s) (i + s) ≡ bit_at n i
bit_at_shl_high n s i =
    let whole : n * 2 ^ s + 0 ≡ n * 2 ^ s = omega arith in
    let place : i + s - s ≡ i = omega arith in
    ap (λ (x : ℕ). bit_at x (i + s)) (sym whole)
    ∙ bit_at_cat_high n s 0 (i + s) (pow_pos s) (omega arith)
    ∙ ap (bit_at n) place

-- ---- sums of bits

taken : (a b : ℕ) → a < 2 → b < 2 → (b + (a + b) % 2) % 2 ≡ a
taken a b ha hb = omega arith

kept : (a : ℕ) → a < 2 → (a + 0) % 2 ≡ a
kept a ha = omega arith

masked : (a m : ℕ) → a < 2 → m ≡ 1 → min a m ≡ a
masked a m ha e = omega arith

unmasked : (a m : ℕ) → m ≡ 0 → min a m ≡ 0
unmasked a m e = omega arith

-- ---- two bytes x and y, the shift s and the mask m

abbrev change : ℕ → ℕ → ℕ → ℕ → ℕ
change s m x y = bit_and (bit_xor (x / 2 ^ s) y) m

abbrev low_byte : ℕ → ℕ → ℕ → ℕ → ℕ
low_byte s m x y = bit_xor x (change s m x y * 2 ^ s % 256)

abbrev high_byte : ℕ → ℕ → ℕ → ℕ → ℕ
high_byte s m x y = bit_xor y (change s m x y)

change_at : (s m x y i : ℕ) → bit_at m i ≡ 1
    → bit_at (change s m x y) i ≡ (bit_at x (i + s) + bit_at y i) % 2
change_at s m x y i e =
    bit_at_and (bit_xor (x / 2 ^ s) y) m i
    ∙ masked _ _ (bit_at-lt (bit_xor (x / 2 ^ s) y) i) e
    ∙ bit_at_xor (x / 2 ^ s) y i
    ∙ ap (λ (b : ℕ). (b + bit_at y i) % 2) (bit_at_shr x s i)

no_change_at : (s m x y i : ℕ) → bit_at m i ≡ 0 → bit_at (change s m x y) i ≡ 0
no_change_at s m x y i e = bit_at_and (bit_xor (x / 2 ^ s) y) m i ∙ unmasked _ _ e

place_of_mask : (m place : ℕ) → m < 256 → bit_at m place ≡ 1 → place < 8
place_of_mask m place lt e = elim (cases_lt place 8) [
  | inl below ↦ below
  | inr above ↦
      let none : bit_at m place ≡ 0 = bit_at_above m 8 place lt above in
      absurd (omega arith)
]

-- at a place of the mask
module _ (s m : ℕ) (apart : AreApart s m) (place : ℕ) (fits : place < 8) (has : bit_at m place ≡ 1)
  where
    high_taken_at : (x y : ℕ) → bit_at (high_byte s m x y) place ≡ bit_at x (place + s)
    high_taken_at x y =
        bit_at_xor y (change s m x y) place
        ∙ ap (λ (b : ℕ). (bit_at y place + b) % 2) (change_at s m x y place has)
        ∙ taken _ _ (bit_at-lt x (place + s)) (bit_at-lt y place)

    high_kept_at : (x y : ℕ) → bit_at (high_byte s m x y) (place + s) ≡ bit_at y (place + s)
    high_kept_at x y =
        bit_at_xor y (change s m x y) (place + s)
        ∙ ap (λ (b : ℕ). (bit_at y (place + s) + b) % 2)
        (no_change_at s m x y (place + s) (apart.apart place fits has))
        ∙ kept _ (bit_at-lt y (place + s))

    low_taken_at : (x y : ℕ) → bit_at (low_byte s m x y) (place + s) ≡ bit_at y place
    low_taken_at x y =
        let turned : bit_at x (place + s) + bit_at y place ≡ bit_at y place + bit_at x (place + s) =
        omega arith in
        let shifted : bit_at (change s m x y * 2 ^ s % 256) (place + s)
        ≡ (bit_at y place + bit_at x (place + s)) % 2 =
        bit_at_byte _ (place + s) (apart.within place fits has)
        ∙ bit_at_shl_high (change s m x y) s place
        ∙ change_at s m x y place has
        ∙ ap (λ (b : ℕ). b % 2) turned in
        bit_at_xor x (change s m x y * 2 ^ s % 256) (place + s)
        ∙ ap (λ (b : ℕ). (bit_at x (place + s) + b) % 2) shifted
        ∙ taken _ _ (bit_at-lt y place) (bit_at-lt x (place + s))

    no_bit_below : (x y : ℕ) → bit_at (change s m x y * 2 ^ s % 256) place ≡ 0
    no_bit_below x y = elim (cases_lt place s) [
      | inl below ↦ bit_at_byte _ place fits ∙ bit_at_shl_low (change s m x y) s place below
      | inr above ↦
          let down : ℕ = place - s in
          let up : down + s ≡ place = omega arith in
          let none : bit_at m down ≡ 1 → ⊥ = λ e.
          let both : bit_at m (down + s) ≡ 0 = apart.apart down (omega arith) e in
          let one : bit_at m (down + s) ≡ 1 = ap (bit_at m) up ∙ has in omega arith in
          let bit : bit_at m down < 2 = bit_at-lt m down in
          bit_at_byte _ place fits ∙ ap (bit_at (change s m x y * 2 ^ s)) (sym up)
          ∙ bit_at_shl_high (change s m x y) s down ∙ no_change_at s m x y down (omega arith)
    ]

    low_kept_at : (x y : ℕ) → bit_at (low_byte s m x y) place ≡ bit_at x place
    low_kept_at x y =
        bit_at_xor x (change s m x y * 2 ^ s % 256) place
        ∙ ap (λ (b : ℕ). (bit_at x place + b) % 2) (no_bit_below x y)
        ∙ kept _ (bit_at-lt x place)

-- ---- sixteen lanes

abbrev changes : ℕ → ℕ → List ℕ → List ℕ → List ℕ
changes s m low high =
    zip2 bit_and (zip2 bit_xor (zip2 (λ a b. a / 2 ^ b) low (replicate 16 s)) high) (replicate 16 m)

abbrev lows : ℕ → ℕ → List ℕ → List ℕ → List ℕ
lows s m low high =
    zip2 bit_xor low (zip2 (λ a b. a * 2 ^ b % 256) (changes s m low high) (replicate 16 s))

abbrev highs : ℕ → ℕ → List ℕ → List ℕ → List ℕ
highs s m low high = zip2 bit_xor high (changes s m low high)

pub IsPlane-from_fits : (v : List ℕ) → length v ≡ 16 → Each1 (Fits w8) v → IsPlane v
IsPlane-from_fits v size fits = record {
  size = size;
  bytes = λ p lt. (Each1-get_or (Fits w8) v p 0 (omega arith) fits).fits;
}

length-both : (f : ℕ → ℕ → ℕ) (xs ys : List ℕ) → length xs ≡ 16 → length ys ≡ 16
    → length (zip2 f xs ys) ≡ 16
length-both f xs ys hx hy = length-zip2 f xs ys (hx ∙ sym hy) ∙ hx

lane_of_both : (f : ℕ → ℕ → ℕ) (xs ys : List ℕ) → length xs ≡ 16 → length ys ≡ 16 → (p : ℕ) → p < 16
    → get_or (zip2 f xs ys) p 0 ≡ f (get_or xs p 0) (get_or ys p 0)
lane_of_both f xs ys hx hy p lt = get_or-zip2 f xs ys p 0 0 0 (omega arith) (omega arith)

lane_of_splat : (f : ℕ → ℕ → ℕ) (xs : List ℕ) (n : ℕ) → length xs ≡ 16 → (p : ℕ) → p < 16
    → get_or (zip2 f xs (replicate 16 n)) p 0 ≡ f (get_or xs p 0) n
lane_of_splat f xs n hx p lt =
    lane_of_both f xs (replicate 16 n) hx refl p lt
    ∙ ap (f (get_or xs p 0)) (get_or-replicate 16 p n 0 lt)

module _ (s m : ℕ) (low high : List ℕ) (is_low : IsPlane low) (is_high : IsPlane high) where
  abbrev moved : List ℕ
  moved = zip2 (λ a b. a / 2 ^ b) low (replicate 16 s)

  abbrev sums : List ℕ
  sums = zip2 bit_xor moved high

  length-moved : length moved ≡ 16
  length-moved = length-both (λ a b. a / 2 ^ b) low (replicate 16 s) is_low.size refl

  length-sums : length sums ≡ 16
  length-sums = length-both bit_xor moved high length-moved is_high.size

  length-changes : length (changes s m low high) ≡ 16
  length-changes = length-both bit_and sums (replicate 16 m) length-sums refl

  abbrev back : List ℕ
  back = zip2 (λ a b. a * 2 ^ b % 256) (changes s m low high) (replicate 16 s)

  length-back : length back ≡ 16
  length-back =
      length-both (λ a b. a * 2 ^ b % 256) (changes s m low high) (replicate 16 s)
      length-changes refl

  module _ (p : ℕ) (lt : p < 16) where
    lane_of_changes : get_or (changes s m low high) p 0
        ≡ change s m (get_or low p 0) (get_or high p 0)
    lane_of_changes =
        lane_of_splat bit_and sums m length-sums p lt
        ∙ ap (λ (x : ℕ). bit_and x m)
        (lane_of_both bit_xor moved high length-moved is_high.size p lt
        ∙ ap (λ (x : ℕ). bit_xor x (get_or high p 0))
        (lane_of_splat (λ a b. a / 2 ^ b) low s is_low.size p lt))

    lane_of_highs : get_or (highs s m low high) p 0
        ≡ high_byte s m (get_or low p 0) (get_or high p 0)
    lane_of_highs =
        lane_of_both bit_xor high (changes s m low high) is_high.size length-changes p lt
        ∙ ap (bit_xor (get_or high p 0)) lane_of_changes

    lane_of_lows : get_or (lows s m low high) p 0
        ≡ low_byte s m (get_or low p 0) (get_or high p 0)
    lane_of_lows =
        lane_of_both bit_xor low back is_low.size length-back p lt
        ∙ ap (bit_xor (get_or low p 0))
        (lane_of_splat (λ a b. a * 2 ^ b % 256) (changes s m low high) s length-changes p lt
        ∙ ap (λ (x : ℕ). x * 2 ^ s % 256) lane_of_changes)

  pub IsExchange-lanes : m < 256 → AreApart s m
      → IsExchange s m low high (lows s m low high) (highs s m low high)
  IsExchange-lanes fits apart = record {
    low_kept = λ p place lt has.
        ap (λ (x : ℕ). bit_at x place) (lane_of_lows p lt)
        ∙ low_kept_at s m apart place (place_of_mask m place fits has) has _ _;
    low_taken = λ p place lt has.
        ap (λ (x : ℕ). bit_at x (place + s)) (lane_of_lows p lt)
        ∙ low_taken_at s m apart place (place_of_mask m place fits has) has _ _;
    high_taken = λ p place lt has.
        ap (λ (x : ℕ). bit_at x place) (lane_of_highs p lt)
        ∙ high_taken_at s m apart place (place_of_mask m place fits has) has _ _;
    high_kept = λ p place lt has.
        ap (λ (x : ℕ). bit_at x (place + s)) (lane_of_highs p lt)
        ∙ high_kept_at s m apart place (place_of_mask m place fits has) has _ _;
  }
