-- `unpad` is the inverse of `pad`.
use Rattle.std.proofs.Common.{◌≡◌, ℕ, zero, suc, ◌+◌, ◌-◌, ◌%◌, ◌<◌, ◌≤◌, List, [], ◌∷◌, ◌++◌, length, take, drop, replicate, get_or, Bool, true, find, Option, Some, None, All, bytes_eq, refl, sym, ap, ◌∙◌, arith, inl, inr}
use Rattle.std.proofs.lemmas.Bool.{cases_Bool, cond-true, cond-false}
use Rattle.std.proofs.lemmas.Slice.Eq.{bytes_eq-Decides}
use Rattle.std.proofs.lemmas.List.{get_or-append-add, get_or-replicate, length-take-le, take-append-drop, take_at, drop_at, length-drop}
use Rattle.std.proofs.lemmas.List.Elements.{All-head, All-replicate, All-same, All-tail}
use Rattle.std.proofs.lemmas.List.FromFn.{get_or-map-range_with_len, length-map-range_with_len}
use Rattle.kr_modes.specs.Padding.{pad, padding, shorter_fronts, unpad}
use Rattle.kr_modes.proofs.Paddings.{length-pad}

-- ---- what a search finds

found : {X : Type 0} (test : X → Bool) (xs : List X) (x : X) → find test xs ≡ Some x → test x ≡ true
found test [] x e = cc
found {X} test (y ∷ ys) x e = elim (cases_Bool (test y)) [
  | inl holds ↦
      let same : Some y ≡ Some x = sym (cond-true (test y) (Some y) (find test ys) holds) ∙ e in
      let it : y ≡ x = cc same in
      ap test (sym it) ∙ holds
  | inr fails ↦ found test ys x (sym (cond-false (test y) (Some y) (find test ys) fails) ∙ e)
]

-- the only one that passes is found
found_only : {X : Type 0} (test : X → Bool) (xs : List X) (x d : X) (i : ℕ) → i < length xs → get_or xs i d ≡ x → test x ≡ true
    → ((y : X) → test y ≡ true → y ≡ x) → find test xs ≡ Some x
found_only test [] x d i lt at holds only = absurd (omega arith)
found_only test (y ∷ ys) x d zero lt at holds only =
    cond-true (test y) (Some y) (find test ys) (ap test at ∙ holds) ∙ ap Some at
found_only test (y ∷ ys) x d (suc i) lt at holds only = elim (cases_Bool (test y)) [
  | inl here ↦ cond-true (test y) (Some y) (find test ys) here ∙ ap Some (only y here)
  | inr fails ↦ cond-false (test y) (Some y) (find test ys) fails ∙ found_only test ys x d i (omega arith) at holds only
]

-- ---- padded bytes tell what was padded

last_of_pad : (plain : List ℕ) → get_or (pad plain) (length (pad plain) - 1) 0 ≡ padding plain
unfolding pad
last_of_pad plain =
    let p : ℕ = padding plain in
    let at : length (pad plain) - 1 ≡ length plain + (p - 1) = omega (arith, length-pad plain) in
    ap (λ (k : ℕ). get_or (pad plain) k 0) at
    ∙ get_or-append-add plain (replicate p p) (p - 1) 0
    ∙ get_or-replicate p (p - 1) p 0 (omega arith)

-- what was padded stands at the front
pub front_of_pad : (plain : List ℕ) → take (length plain) (pad plain) ≡ plain
unfolding pad
front_of_pad plain = take_at plain (replicate (padding plain) (padding plain)) (length plain) refl

pad_injective : (a b : List ℕ) → pad a ≡ pad b → a ≡ b
pad_injective a b e =
    let last : padding a ≡ padding b =
    sym (last_of_pad a) ∙ ap (λ (xs : List ℕ). get_or xs (length xs - 1) 0) e ∙ last_of_pad b in
    let both : length (pad a) ≡ length (pad b) = ap length e in
    let size : length a ≡ length b = omega (arith, length-pad a, length-pad b) in
    sym (front_of_pad a) ∙ ap (λ (xs : List ℕ). take (length a) xs) e ∙ ap (λ (k : ℕ). take k (pad b)) size ∙ front_of_pad b

pub pad_of_unpad : (bytes plain : List ℕ) → unpad bytes ≡ Some plain → pad plain ≡ bytes
unfolding unpad
pad_of_unpad bytes plain e =
    (bytes_eq-Decides (pad plain) bytes).0 (found (λ xs. bytes_eq (pad xs) bytes) (shorter_fronts bytes) plain e)

pub unpad_of_pad : (bytes plain : List ℕ) → pad plain ≡ bytes → unpad bytes ≡ Some plain
unfolding unpad
unpad_of_pad bytes plain e =
    let n : ℕ = length plain in
    let shorter : n < length bytes = omega (arith, length-pad plain, ap length e) in
    let place : get_or (shorter_fronts bytes) n [] ≡ plain =
    get_or-map-range_with_len (λ size. take size bytes) 0 (length bytes) n n [] shorter (omega arith)
    ∙ ap (take n) (sym e) ∙ front_of_pad plain in
    let known : n < length (shorter_fronts bytes) = omega (arith, length-map-range_with_len (λ size. take size bytes) 0 (length bytes)) in
    found_only (λ xs. bytes_eq (pad xs) bytes) (shorter_fronts bytes) plain [] n known place
    ((bytes_eq-Decides (pad plain) bytes).1 e)
    (λ y holds. pad_injective y plain ((bytes_eq-Decides (pad y) bytes).0 holds ∙ sym e))

-- nothing was padded so
pub none_from : (bytes : List ℕ) → ((plain : List ℕ) → pad plain ≡ bytes → ⊥) → unpad bytes ≡ None
none_from bytes never = none (unpad bytes) refl
  where
    none : (o : Option (List ℕ)) → unpad bytes ≡ o → unpad bytes ≡ None
    none None e = e
    none (Some plain) e = absurd (never plain (pad_of_unpad bytes plain e))

-- ---- what the code reads

-- the last byte of padded bytes
pub last_is_padding : (bytes plain : List ℕ) → pad plain ≡ bytes → get_or bytes (length bytes - 1) 0 ≡ padding plain
last_is_padding bytes plain e = ap (λ (xs : List ℕ). get_or xs (length xs - 1) 0) (sym e) ∙ last_of_pad plain

all_same : (p : ℕ) (xs : List ℕ) → All (λ x. x ≡ p) xs → xs ≡ replicate (length xs) p
all_same p [] h = refl
all_same p (x ∷ xs) h =
    λ i. (All-head (λ y. y ≡ p) x xs h) i ∷ (all_same p xs (All-tail (λ y. y ≡ p) x xs h)) i

padded : (bytes : List ℕ) (p : ℕ) → 0 < p → p ≤ 16 → p ≤ length bytes → length bytes % 16 ≡ 0
    → All (λ x. x ≡ p) (drop (length bytes - p) bytes) → pad (take (length bytes - p) bytes) ≡ bytes
unfolding pad
padded bytes p some most fits whole all =
    let n : ℕ = length bytes - p in
    let size : length (take n bytes) ≡ n = length-take-le n bytes (omega arith) in
    let value : padding (take n bytes) ≡ p = omega arith in
    let left : length (drop n bytes) ≡ p = omega (arith, length-drop n bytes) in
    let end : drop n bytes ≡ replicate p p = all_same p (drop n bytes) all ∙ ap (λ (k : ℕ). replicate k p) left in
    ap (λ (k : ℕ). take n bytes ++ replicate k k) value ∙ ap (λ (xs : List ℕ). take n bytes ++ xs) (sym end) ∙ take-append-drop n bytes

-- p bytes of value p stand at the end
pub unpad_where_all : (bytes : List ℕ) (p : ℕ) → 0 < p → p ≤ 16 → p ≤ length bytes → length bytes % 16 ≡ 0
    → All (λ x. x ≡ p) (drop (length bytes - p) bytes) → unpad bytes ≡ Some (take (length bytes - p) bytes)
unpad_where_all bytes p some most fits whole all = unpad_of_pad bytes (take (length bytes - p) bytes) (padded bytes p some most fits whole all)

-- and wherever there is data, as many bytes as the last one says are all the same
pub all_where_padded : (bytes plain : List ℕ) (p : ℕ) → p ≡ get_or bytes (length bytes - 1) 0 → pad plain ≡ bytes
    → (0 < p) × (p ≤ 16) × All (λ x. x ≡ p) (drop (length bytes - p) bytes)
unfolding pad
all_where_padded bytes plain p last e =
    let is : p ≡ padding plain = last ∙ last_is_padding bytes plain e in
    let size : length bytes - p ≡ length plain = omega (arith, length-pad plain, ap length e) in
    let end : drop (length bytes - p) bytes ≡ replicate (padding plain) (padding plain) =
    ap (λ (k : ℕ). drop k bytes) size ∙ ap (drop (length plain)) (sym e) ∙ drop_at plain (replicate (padding plain) (padding plain)) (length plain) refl in (
      omega arith,
      omega arith,
      All-same (λ x. x ≡ p) (drop (length bytes - p) bytes) (replicate (padding plain) (padding plain)) end (All-replicate (λ x. x ≡ p) (padding plain) (padding plain) (sym is)),
    )
