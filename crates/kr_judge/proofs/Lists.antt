-- Members of lists, and lists of which nothing is left.
use Rattle.std.proofs.Common.{◌≡◌, Bool, true, false, List, [], ◌∷◌, ◌++◌, Option, None, Some, Contains, map, refl, sym, subst, ap, ◌∙◌, inl, inr, arith}
use Rattle.std.specs.Prelude.{cond}
use Rattle.std.specs.List.{filter, filter_map, flat_map, cons_option}
use Rattle.std.specs.Option.{option_map}
use Rattle.kr_config.proofs.ListParts.{here, there, cases}

pub head_is : {X : Type 0} (x y : X) (xs : List X) → x ≡ y → Contains (x ∷ xs) y
head_is x y xs e = subst (Contains (x ∷ xs)) e (here x xs)

-- nothing passes a test
pub filtered_none : {X : Type 0} (test : X → Bool) (xs : List X) → filter test xs ≡ [] → (x : X) → Contains xs x → test x ≡ false
filtered_none test [] h x m = absurd (omega (arith, m.1))
filtered_none {X} test (y ∷ ys) h x m = by (test y) refl h (filtered_none test ys)
  where
    by : (v : Bool) → test y ≡ v → cond v (y ∷ filter test ys) (filter test ys) ≡ [] → (filter test ys ≡ [] → (z : X) → Contains ys z → test z ≡ false) → test x ≡ false
    by true e k rest = cc
    by false e k rest = elim (cases y x ys m) [ inl q ↦ subst (λ z. test z ≡ false) q e | inr n ↦ rest k x n ]

pub none_filtered : {X : Type 0} (test : X → Bool) (xs : List X) → ((x : X) → Contains xs x → test x ≡ false) → filter test xs ≡ []
none_filtered test [] h = refl
none_filtered test (y ∷ ys) h = by (test y) (h y (here y ys)) (none_filtered test ys (λ x m. h x (there y x ys m)))
  where
    by : (v : Bool) → v ≡ false → filter test ys ≡ [] → cond v (y ∷ filter test ys) (filter test ys) ≡ []
    by true e k = cc
    by false e k = k

-- nothing is made of any member
left_empty : {Y : Type 0} (xs ys : List Y) → xs ++ ys ≡ [] → xs ≡ []
left_empty [] ys h = refl
left_empty (x ∷ xs) ys h = cc

right_empty : {Y : Type 0} (xs ys : List Y) → xs ++ ys ≡ [] → ys ≡ []
right_empty [] ys h = h
right_empty (x ∷ xs) ys h = cc

pub flattened_none : {X Y : Type 0} (f : X → List Y) (xs : List X) → flat_map f xs ≡ [] → (x : X) → Contains xs x → f x ≡ []
flattened_none f [] h x m = absurd (omega (arith, m.1))
flattened_none f (y ∷ ys) h x m = elim (cases y x ys m) [
  | inl q ↦ subst (λ z. f z ≡ []) q (left_empty (f y) (flat_map f ys) h)
  | inr n ↦ flattened_none f ys (right_empty (f y) (flat_map f ys) h) x n
]

pub none_flattened : {X Y : Type 0} (f : X → List Y) (xs : List X) → ((x : X) → Contains xs x → f x ≡ []) → flat_map f xs ≡ []
none_flattened f [] h = refl
none_flattened f (y ∷ ys) h = ap (λ l. l ++ flat_map f ys) (h y (here y ys)) ∙ none_flattened f ys (λ x m. h x (there y x ys m))

pub mapped_none : {X Y : Type 0} (f : X → Option Y) (xs : List X) → filter_map f xs ≡ [] → (x : X) → Contains xs x → f x ≡ None
mapped_none f [] h x m = absurd (omega (arith, m.1))
mapped_none {X} f (y ∷ ys) h x m = by (f y) refl h (mapped_none f ys)
  where
    by : (v : Option _) → f y ≡ v → cons_option v (filter_map f ys) ≡ [] → (filter_map f ys ≡ [] → (z : X) → Contains ys z → f z ≡ None) → f x ≡ None
    by (Some new) e k rest = cc
    by None e k rest = elim (cases y x ys m) [ inl q ↦ subst (λ z. f z ≡ None) q e | inr n ↦ rest k x n ]

pub none_mapped : {X Y : Type 0} (f : X → Option Y) (xs : List X) → ((x : X) → Contains xs x → f x ≡ None) → filter_map f xs ≡ []
none_mapped f [] h = refl
none_mapped f (y ∷ ys) h = ap (λ v. cons_option v (filter_map f ys)) (h y (here y ys)) ∙ none_mapped f ys (λ x m. h x (there y x ys m))

pub map_empty : {X Y : Type 0} (f : X → Y) (xs : List X) → map f xs ≡ [] → xs ≡ []
map_empty f [] h = refl
map_empty f (x ∷ xs) h = cc

pub option_none : {X Y : Type 0} (f : X → Y) (v : Option X) → option_map f v ≡ None → v ≡ None
option_none f None h = refl
option_none f (Some x) h = cc

pub one_truth : (u v : Bool) → (u ≡ true → v ≡ true) → (v ≡ true → u ≡ true) → u ≡ v
one_truth true v h k = sym (h refl)
one_truth false true h k = k refl
one_truth false false h k = refl
