-- What an answer without a breach says of the steps to it.
use Rattle.std.proofs.Common.{◌≡◌, ℕ, Bool, true, false, List, [], ◌∷◌, ◌++◌, Some, None, Ok, Err}
use Rattle.std.proofs.Common.{refl, ◌∙◌, ap, subst, Option, Result}
use Rattle.std.specs.Prelude.{if◌then◌else◌, ◌&&◌, ◌||◌, not}
use Rattle.std.specs.Option.{option_map_or}
use Rattle.std.specs.List.{list_all, list_any}
use Rattle.std.proofs.lemmas.List.Folds.{list_all-append}
use Rattle.serde_json.specs.Data.{Data}
use Rattle.kr_config.specs.declared.refusal.ConfigNo.{ConfigNo}
use Rattle.kr_config.specs.Kept.{apart}
use Rattle.kr_base.specs.Numbering.{next_place}
use Rattle.kr_config.specs.Walk.{then_unless_breach, walk, walk_each}

abbrev ok_or : {A : Type 0} → Result A ConfigNo → A → A
ok_or (Ok x) d = x
ok_or (Err why) d = d

abbrev fine : {A : Type 0} → A → Result A ConfigNo
fine x = Ok x

pub same_ok : {A : Type 0} (x y : A) → fine x ≡ fine y → x ≡ y
same_ok x y h = ap (λ r. ok_or r x) h

abbrev some_or : {A : Type 0} → Option A → A → A
some_or (Some x) d = x
some_or None d = d

pub same_some : {A : Type 0} (x y : A) → Some x ≡ Some y → x ≡ y
same_some x y h = ap (λ r. some_or r x) h

pub and_then_ok : {A B : Type 0} (r : Result A ConfigNo) (f : A → Result B ConfigNo) (t : B)
    → then_unless_breach r f ≡ Ok t → (x : A) × (r ≡ Ok x) × (f x ≡ Ok t)
and_then_ok (Ok x) f t h = (x, refl, h)
and_then_ok (Err why) f t h = absurd (cc)

pub if_ok : {A : Type 0} (b : Bool) (r : Result A ConfigNo) (why : ConfigNo) (t : A)
    → (if b then r else Err why) ≡ Ok t → (b ≡ true) × (r ≡ Ok t)
if_ok true r why t h = (refl, h)
if_ok false r why t h = absurd (cc)

pub if_not : {A : Type 0} (b : Bool) (r : Result A ConfigNo) (why : ConfigNo) (t : A)
    → (if b then Err why else r) ≡ Ok t → (b ≡ false) × (r ≡ Ok t)
if_not true r why t h = absurd (cc)
if_not false r why t h = (refl, h)

pub some_ok : {A B : Type 0} (o : Option A) (f : A → Result B ConfigNo) (why : ConfigNo) (t : B)
    → option_map_or f o (Err why) ≡ Ok t → (x : A) × (o ≡ Some x) × (f x ≡ Ok t)
some_ok (Some x) f why t h = (x, refl, h)
some_ok None f why t h = absurd (cc)

pub both : (a b : Bool) → a ≡ true → b ≡ true → (a && b) ≡ true
both true b h k = k
both false b h k = h

pub left : (a b : Bool) → (a && b) ≡ true → a ≡ true
left true b h = refl
left false b h = h

pub right : (a b : Bool) → (a && b) ≡ true → b ≡ true
right true b h = h
right false b h = absurd (cc)

none_step : (b c d : Bool) → (b || c) ≡ false → (c ≡ false → d ≡ true) → (not b && d) ≡ true
none_step true c d h k = absurd (cc)
none_step false c d h k = k h

pub none_any : {X : Type 0} (f : X → Bool) (xs : List X) → list_any f xs ≡ false
    → list_all (λ x. not (f x)) xs ≡ true
none_any f [] h = refl
none_any f (x ∷ xs) h = none_step (f x) (list_any f xs) (list_all (λ y. not (f y)) xs) h
    (none_any f xs)

neither_step : (a b c d e : Bool) → (a || c) ≡ false → (b || d) ≡ false
    → (c ≡ false → d ≡ false → e ≡ true) → (not (a || b) && e) ≡ true
neither_step false false c d e h k m = m h k
neither_step other b c d e h k m = absurd (cc)

pub neither_any : {X : Type 0} (f g : X → Bool) (xs : List X) → list_any f xs ≡ false
    → list_any g xs ≡ false → list_all (λ x. not (f x || g x)) xs ≡ true
neither_any f g [] h k = refl
neither_any f g (x ∷ xs) h k =
    neither_step (f x) (g x) (list_any f xs) (list_any g xs) (list_all (λ y. not (f y || g y)) xs) h
    k (neither_any f g xs)

pub all_push : {X : Type 0} (p : X → Bool) (xs : List X) (y : X) → list_all p xs ≡ true → p y ≡ true
    → list_all p (xs ++ y ∷ []) ≡ true
all_push p xs y h e = list_all-append p xs (y ∷ [])
    ∙ both (list_all p xs) (list_all p (y ∷ [])) h (both (p y) true e refl)

pub apart_push : {X : Type 0} (clashes : X → X → Bool) (xs : List X) (y : X)
    → apart clashes xs ≡ true → list_all (λ x. not (clashes x y)) xs ≡ true
    → apart clashes (xs ++ y ∷ []) ≡ true
apart_push clashes [] y a h = refl
apart_push clashes (x ∷ xs) y a h = both _ _
    (all_push (λ z. not (clashes x z)) xs y
    (left (list_all (λ z. not (clashes x z)) xs) (apart clashes xs) a)
    (left (not (clashes x y)) (list_all (λ z. not (clashes z y)) xs) h))
    (apart_push clashes xs y (right (list_all (λ z. not (clashes x z)) xs) (apart clashes xs) a)
    (right (not (clashes x y)) (list_all (λ z. not (clashes z y)) xs) h))

-- what each step keeps stands after a walk
pub walk_keeps : {S : Type 0} (step : ℕ → S → Data → Result S ConfigNo) (P : S → Type 0)
    → ((i : ℕ) (s : S) (d : Data) (t : S) → P s → step i s d ≡ Ok t → P t)
    → (i : ℕ) (s : S) (ds : List Data) (t : S) → P s → walk step i s ds ≡ Ok t → P t
walk_keeps step P each i s [] t p h = subst P (same_ok s t h) p
walk_keeps step P each i s (d ∷ ds) t p h =
    let first = and_then_ok (step i s d) (λ u. walk step (next_place i) u ds) t h in
    walk_keeps step P each (next_place i) first.0 ds t (each i s d first.0 p first.1) first.2

pub each_keeps : {S : Type 0} (step : S → Data → Result S ConfigNo) (P : S → Type 0)
    → ((s : S) (d : Data) (t : S) → P s → step s d ≡ Ok t → P t)
    → (s : S) (ds : List Data) (t : S) → P s → walk_each step s ds ≡ Ok t → P t
each_keeps step P each s [] t p h = subst P (same_ok s t h) p
each_keeps step P each s (d ∷ ds) t p h =
    let first = and_then_ok (step s d) (λ u. walk_each step u ds) t h in
    each_keeps step P each first.0 ds t (each s d first.0 p first.1) first.2
