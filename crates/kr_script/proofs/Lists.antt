-- Lists of names, and what holds of each of them.
use Rattle.std.proofs.Common.{◌≡◌, ℕ, zero, suc, ◌<◌, Bool, true, false, List, [], ◌∷◌}
use Rattle.std.proofs.Common.{◌++◌, length, map, Option, None, Some, refl, sym, ap, ◌∙◌, arith}
use Rattle.std.proofs.Common.{get_or}
use Rattle.std.specs.Prelude.{◌&&◌, ◌||◌, not, if◌then◌else◌, option_and_then}
use Rattle.std.specs.List.{list_any, list_all}
use Rattle.std.specs.Option.{option_map}
use Rattle.std.specs.Str.{bytes_eq}
use Rattle.std.proofs.lemmas.Bool.{and_parts, and_from, not-true, both_ways}
use Rattle.std.proofs.lemmas.List.{map-append}
use Rattle.std.proofs.lemmas.List.Folds.{list_all-append, list_any-append}
use Rattle.std.proofs.lemmas.Slice.Eq.{bytes_eq-Decides}
use Rattle.kr_script.specs.Rules.{are_distinct}

-- texts

pub same_text : (a b : List ℕ) → bytes_eq a b ≡ true → a ≡ b
same_text a b h = (bytes_eq-Decides a b).0 h

pub text_same : (a : List ℕ) → bytes_eq a a ≡ true
text_same a = (bytes_eq-Decides a a).1 refl

pub texts_by : (a b c : List ℕ) → a ≡ b → bytes_eq a c ≡ bytes_eq b c
texts_by a b c e = ap (λ x. bytes_eq x c) e

-- what an option or a choice gave

pub none_some : {T : Type 0} (x : T) → None ≡ Some x → ⊥
none_some x e = cc

pub if_only : {T : Type 0} (b : Bool) (x y : T) → (if b then Some x else None) ≡ Some y
    → (b ≡ true) × (x ≡ y)
if_only true x y e = (refl, cc)
if_only false x y e = absurd (none_some y e)

pub if_some : {T : Type 0} (b : Bool) (o : Option T) (y : T)
    → (if b then o else None) ≡ Some y → (b ≡ true) × (o ≡ Some y)
if_some true o y e = (refl, e)
if_some false o y e = absurd (none_some y e)

pub then_some : {S T : Type 0} (f : S → Option T) (o : Option S) (y : T)
    → option_and_then f o ≡ Some y → (x : S) × (o ≡ Some x) × (f x ≡ Some y)
then_some f None y e = absurd (none_some y e)
then_some f (Some x) y e = (x, refl, e)

pub map_some : {S T : Type 0} (f : S → T) (o : Option S) (y : T)
    → option_map f o ≡ Some y → (x : S) × (o ≡ Some x) × (f x ≡ y)
map_some f None y e = absurd (none_some y e)
map_some f (Some x) y e = (x, refl, cc)

-- none of a front, and none of one more

pub or_false : (a b : Bool) → (a || b) ≡ false → (a ≡ false) × (b ≡ false)
or_false true b e = absurd (both_ways true e refl)
or_false false b e = (refl, e)

pub or_none : (a b : Bool) → a ≡ false → b ≡ false → (a || b) ≡ false
or_none a b e f = ap (λ x. x || b) e ∙ f

pub not_false : (a : Bool) → a ≡ false → not a ≡ true
not_false a e = ap not e

pub any_one : {T : Type 0} (p : T → Bool) (x : T) → list_any p (x ∷ []) ≡ false → p x ≡ false
any_one p x e = (or_false (p x) false e).0

pub any_push : {T : Type 0} (p : T → Bool) (xs : List T) (x : T) → list_any p xs ≡ false
    → p x ≡ false → list_any p (xs ++ x ∷ []) ≡ false
any_push p xs x e f = list_any-append p xs (x ∷ []) ∙ or_none (list_any p xs) (p x || false) e
    (or_none (p x) false f refl)

pub any_both : {T : Type 0} (p : T → Bool) (xs ys : List T) → list_any p xs ≡ false
    → list_any p ys ≡ false → list_any p (xs ++ ys) ≡ false
any_both p xs ys e f = list_any-append p xs ys ∙ or_none (list_any p xs) (list_any p ys) e f

pub any_parts : {T : Type 0} (p : T → Bool) (xs ys : List T) → list_any p (xs ++ ys) ≡ false
    → (list_any p xs ≡ false) × (list_any p ys ≡ false)
any_parts p xs ys e = or_false (list_any p xs) (list_any p ys) (sym (list_any-append p xs ys) ∙ e)

pub any_at : {S T : Type 0} (p : T → Bool) (f : S → T) (xs : List S) (k : ℕ) (d : S)
    → list_any p (map f xs) ≡ false → k < length xs → p (f (get_or xs k d)) ≡ false
any_at p f [] k d e h = absurd (omega (arith, h))
any_at p f (x ∷ xs) zero d e h = (or_false (p (f x)) (list_any p (map f xs)) e).0
any_at p f (x ∷ xs) (suc k) d e h =
    any_at p f xs k d (or_false (p (f x)) (list_any p (map f xs)) e).1 (omega (arith, h))

pub all_push : {T : Type 0} (p : T → Bool) (xs : List T) (x : T) → list_all p xs ≡ true
    → p x ≡ true → list_all p (xs ++ x ∷ []) ≡ true
all_push p xs x e f = list_all-append p xs (x ∷ [])
    ∙ and_from (list_all p xs) (p x && true) e (and_from (p x) true f refl)

pub all_push_map : {S T : Type 0} (p : T → Bool) (f : S → T) (xs : List S) (x : S)
    → list_all p (map f xs) ≡ true → p (f x) ≡ true → list_all p (map f (xs ++ x ∷ [])) ≡ true
all_push_map p f xs x e h =
    ap (list_all p) (map-append f xs (x ∷ [])) ∙ all_push p (map f xs) (f x) e h

pub all_at : {S T : Type 0} (p : T → Bool) (f : S → T) (xs : List S) (x : S) (ys : List S)
    → list_all p (map f (xs ++ x ∷ ys)) ≡ true → p (f x) ≡ true
all_at p f [] x ys e = (and_parts (p (f x)) (list_all p (map f ys)) e).0
all_at p f (y ∷ xs) x ys e =
    all_at p f xs x ys (and_parts (p (f y)) (list_all p (map f (xs ++ x ∷ ys))) e).1

-- distinct names

symmetric : (a b : List ℕ) (t : Bool) → bytes_eq b a ≡ t → bytes_eq a b ≡ false
    → bytes_eq b a ≡ false
symmetric a b true h n =
    absurd (both_ways (bytes_eq a b) n
    ((bytes_eq-Decides a b).1 (sym (same_text b a h))))
symmetric a b false h n = h

pub differ : (a b : List ℕ) → bytes_eq a b ≡ false → bytes_eq b a ≡ false
differ a b n = symmetric a b (bytes_eq b a) refl n

pub distinct_push : (names : List (List ℕ)) (name : List ℕ) → are_distinct names ≡ true
    → list_any (λ n. bytes_eq n name) names ≡ false → are_distinct (names ++ name ∷ []) ≡ true
distinct_push [] name e n = refl
distinct_push (first ∷ names) name e n =
    let parts = and_parts (not (list_any (bytes_eq first) names)) (are_distinct names) e in
    let new = or_false (bytes_eq first name) (list_any (λ n. bytes_eq n name) names) n in
    and_from (not (list_any (bytes_eq first) (names ++ name ∷ [])))
    (are_distinct (names ++ name ∷ []))
    (not_false (list_any (bytes_eq first) (names ++ name ∷ []))
    (any_push (bytes_eq first) names name (not-true (list_any (bytes_eq first) names) parts.0)
    new.0))
    (distinct_push names name parts.1 new.1)

pub any_map : {S T : Type 0} (p : T → Bool) (f : S → T) (xs : List S)
    → list_any p (map f xs) ≡ list_any (λ x. p (f x)) xs
any_map p f [] = refl
any_map p f (x ∷ xs) = ap (λ b. p (f x) || b) (any_map p f xs)

pub distinct_push_map : {S : Type 0} (f : S → List ℕ) (xs : List S) (x : S)
    → are_distinct (map f xs) ≡ true → list_any (λ y. bytes_eq (f y) (f x)) xs ≡ false
    → are_distinct (map f (xs ++ x ∷ [])) ≡ true
distinct_push_map f xs x e n =
    ap are_distinct (map-append f xs (x ∷ []))
    ∙ distinct_push (map f xs) (f x) e (any_map (λ m. bytes_eq m (f x)) f xs ∙ n)

-- an element differs from each one before it
pub distinct_at : {S : Type 0} (f : S → List ℕ) (xs : List S) (x : S) (ys : List S)
    → are_distinct (map f (xs ++ x ∷ ys)) ≡ true → list_any (λ y. bytes_eq (f y) (f x)) xs ≡ false
distinct_at f [] x ys e = refl
distinct_at f (y ∷ xs) x ys e =
    let parts = and_parts (not (list_any (bytes_eq (f y)) (map f (xs ++ x ∷ ys))))
    (are_distinct (map f (xs ++ x ∷ ys))) e in
    let none = not-true (list_any (bytes_eq (f y)) (map f (xs ++ x ∷ ys))) parts.0 in
    let split = any_parts (bytes_eq (f y)) (map f xs) (f x ∷ map f ys)
    (ap (list_any (bytes_eq (f y))) (sym (map-append f xs (x ∷ ys))) ∙ none) in
    or_none (bytes_eq (f y) (f x)) (list_any (λ z. bytes_eq (f z) (f x)) xs)
    (or_false (bytes_eq (f y) (f x)) (list_any (bytes_eq (f y)) (map f ys)) split.1).0
    (distinct_at f xs x ys parts.1)
