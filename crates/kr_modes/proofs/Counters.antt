-- Counter blocks one after another.
use Rattle.std.proofs.Common.{◌≡◌, ℕ, suc, ◌+◌, ◌-◌, ◌/◌, ◌%◌, ◌^◌, ◌<◌, ◌≤◌, List, [], ◌∷◌, ◌++◌, below_more, get_or, length, map, replicate, slice_set, take, refl, sym, ap, ◌∙◌, arith}
use Rattle.std.proofs.lemmas.List.{append_assoc, ext_get_or, get_or-replicate, get_or-set_other, get_or-set_same, length-set, take_at}
use Rattle.std.proofs.lemmas.List.FromFn.{get_or-map-range_with_len}
use Rattle.std.specs.Int.{w32, to_be_bytes}
use Rattle.std.specs.List.{range_with_len}
use Rattle.kr_modes.specs.Gcm.{counter_block}

-- the bytes above the last are the same where that doesn't begin anew
same_high : (m k : ℕ) → k ≡ m + 1 → (k % 256 ≡ 0 → ⊥) → take 3 (to_be_bytes w32 k) ≡ take 3 (to_be_bytes w32 m)
same_high m k e some =
    let a : k / 16777216 % 256 ≡ m / 16777216 % 256 = omega arith in
    let b : k / 65536 % 256 ≡ m / 65536 % 256 = omega arith in
    let c : k / 256 % 256 ≡ m / 256 % 256 = omega arith in
    λ i. a i ∷ b i ∷ c i ∷ []

-- what stands behind a front of known length
front_of : (xs ys : List ℕ) (a k : ℕ) → length xs ≡ a → take (a + k) (xs ++ ys) ≡ xs ++ take k ys
front_of [] ys a k e = let none : a + k ≡ k = omega arith in ap (λ (n : ℕ). take n ys) none
front_of (x ∷ xs) ys a k e =
    let more : a + k ≡ suc (a - 1 + k) = omega arith in
    ap (λ (n : ℕ). take n (x ∷ xs ++ ys)) more ∙ ap (λ (rest : List ℕ). x ∷ rest) (front_of xs ys (a - 1) k (omega arith))

pub same_front : (nonce : List ℕ) (n : ℕ) → length nonce ≡ 12 → 0 < n → n + 1 < 2 ^ 32 → ((n + 1) % 256 ≡ 0 → ⊥)
    → take 15 (counter_block nonce (n - 1)) ≡ take 15 (counter_block nonce n)
unfolding counter_block
same_front nonce n size positive fits some =
    let m : ℕ = (1 + (n - 1)) % 2 ^ 32 in
    let k : ℕ = (1 + n) % 2 ^ 32 in
    let next : k ≡ m + 1 = omega arith in
    let last : k % 256 ≡ (n + 1) % 256 = omega arith in
    front_of nonce (to_be_bytes w32 m) 12 3 size
    ∙ ap (λ (high : List ℕ). nonce ++ high) (sym (same_high m k next (λ none. some (sym last ∙ none))))
    ∙ sym (front_of nonce (to_be_bytes w32 k) 12 3 size)

-- a counter block is its first 15 bytes and the count's last
pub front_and_last : (nonce : List ℕ) (n : ℕ) → length nonce ≡ 12 → n + 1 < 2 ^ 32
    → take 15 (counter_block nonce n) ++ (n + 1) % 256 ∷ [] ≡ counter_block nonce n
unfolding counter_block
front_and_last nonce n size fits =
    let k : ℕ = (1 + n) % 2 ^ 32 in
    let last : (n + 1) % 256 ≡ k % 256 = omega arith in
    (λ i. front_of nonce (to_be_bytes w32 k) 12 3 size i ++ last i ∷ [])
    ∙ append_assoc nonce (take 3 (to_be_bytes w32 k)) (k % 256 ∷ [])

-- ---- eight of them, which are written over copies of the first

pub record AreCounted (nonce : List ℕ) (n i : ℕ) (blocks : List (List ℕ)) : Type 0 where
  pub eight : length blocks ≡ 8
  pub counted : (k : ℕ) → k < i → get_or blocks k [] ≡ counter_block nonce (n + k)
  pub copies : (k : ℕ) → i ≤ k → k < 8 → get_or blocks k [] ≡ counter_block nonce n

pub first_counted : (nonce block : List ℕ) (n : ℕ) → block ≡ counter_block nonce n → AreCounted nonce n 1 (replicate 8 block)
first_counted nonce block n is = record {
  eight = refl;
  counted = λ k lt. get_or-replicate 8 k block [] (omega arith) ∙ is ∙ ap (counter_block nonce) (omega arith);
  copies = λ k le lt. get_or-replicate 8 k block [] lt ∙ is;
}

-- the nonce is in front
nonce_of : (nonce : List ℕ) (n : ℕ) → length nonce ≡ 12 → take 12 (counter_block nonce n) ≡ nonce
unfolding counter_block
nonce_of nonce n size = take_at nonce (to_be_bytes w32 ((1 + n) % 2 ^ 32)) 12 size

pub one_more_counted : (nonce block : List ℕ) (n i : ℕ) (blocks : List (List ℕ)) → length nonce ≡ 12 → i < 8
    → block ≡ counter_block (take 12 (get_or blocks i [])) (n + i)
    → AreCounted nonce n i blocks → AreCounted nonce n (i + 1) (slice_set blocks i block)
one_more_counted nonce block n i blocks size lt is before =
    let value : block ≡ counter_block nonce (n + i) =
    is ∙ ap (λ (xs : List ℕ). counter_block xs (n + i)) (ap (take 12) (before.copies i (omega arith) lt) ∙ nonce_of nonce n size) in
    record {
      eight = length-set blocks i block ∙ before.eight;
      counted = below_more (λ k. get_or (slice_set blocks i block) k [] ≡ counter_block nonce (n + k)) i
          (λ k less. get_or-set_other blocks i k block [] (λ e. omega arith) ∙ before.counted k less)
          (get_or-set_same blocks i block [] (omega (arith, before.eight)) ∙ value);
      copies = λ k le less. get_or-set_other blocks i k block [] (λ e. omega arith) ∙ before.copies k (omega arith) less;
    }

pub all_counted : (nonce : List ℕ) (n i : ℕ) (blocks : List (List ℕ)) → i ≡ 8 → AreCounted nonce n i blocks
    → blocks ≡ map (counter_block nonce) (range_with_len n 8)
all_counted nonce n i blocks e before =
    ext_get_or [] blocks (map (counter_block nonce) (range_with_len n 8)) before.eight
    (λ k lt. before.counted k (omega (arith, before.eight))
    ∙ sym (get_or-map-range_with_len (counter_block nonce) n 8 k (n + k) [] (omega (arith, before.eight)) refl))
