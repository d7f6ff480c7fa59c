-- What holds of an item in the midst of a list, and lists that a walk gives back.
use Rattle.std.proofs.Common.{◌≡◌, ℕ, Bool, true, false, List, [], ◌∷◌, ◌++◌, map, Result, Ok, refl, sym, ap, subst, ◌∙◌, append-nil}
use Rattle.std.specs.Prelude.{◌&&◌, ◌||◌, not}
use Rattle.std.specs.List.{list_all, list_any}
use Rattle.std.proofs.lemmas.Bool.{false≢true}
use Rattle.std.proofs.lemmas.List.{append_assoc}
use Rattle.std.proofs.lemmas.List.Folds.{list_all-append}
use Rattle.serde_json.specs.Data.{Data}
use Rattle.kr_base.specs.Numbering.{next_place}
use Rattle.kr_config.specs.declared.refusal.ConfigNo.{ConfigNo}
use Rattle.kr_config.specs.Kept.{apart}
use Rattle.kr_config.specs.Walk.{then_unless_breach, walk}
use Rattle.kr_config.proofs.Inversions.{left, right}

pub middle_all : {T : Type 0} (test : T → Bool) (front : List T) (x : T) (behind : List T)
    → list_all test (front ++ x ∷ behind) ≡ true → test x ≡ true
middle_all test front x behind h = left (test x) (list_all test behind)
    (right (list_all test front) (list_all test (x ∷ behind))
    (sym (list_all-append test front (x ∷ behind)) ∙ h))

is_false : (b : Bool) → not b ≡ true → b ≡ false
is_false true h = absurd (false≢true h)
is_false false h = refl

neither : (a b : Bool) → a ≡ false → b ≡ false → (a || b) ≡ false
neither true b h k = h
neither false b h k = k

pub middle_apart : {T : Type 0} (clashes : T → T → Bool) (front : List T) (x : T) (behind : List T)
    → apart clashes (front ++ x ∷ behind) ≡ true → list_any (λ y. clashes y x) front ≡ false
middle_apart clashes [] x behind h = refl
middle_apart clashes (z ∷ front) x behind h =
    let rest = front ++ x ∷ behind in
    neither (clashes z x) (list_any (λ y. clashes y x) front)
    (is_false (clashes z x) (middle_all (λ y. not (clashes z y)) front x behind
    (left (list_all (λ y. not (clashes z y)) rest) (apart clashes rest) h)))
    (middle_apart clashes front x behind
    (right (list_all (λ y. not (clashes z y)) rest) (apart clashes rest) h))

either_one : (a b : Bool) → (a || b) ≡ false → a ≡ false
either_one true b h = h
either_one false b h = refl

either_other : (a b : Bool) → (a || b) ≡ false → b ≡ false
either_other true b h = absurd (false≢true (sym h))
either_other false b h = h

-- where no element meets a test, none meets one that fails wherever it does
any_less : {T : Type 0} (test less : T → Bool) → ((y : T) → test y ≡ false → less y ≡ false)
    → (xs : List T) → list_any test xs ≡ false → list_any less xs ≡ false
any_less test less fails [] h = refl
any_less test less fails (x ∷ xs) h =
    let rest = list_any test xs in
    neither (less x) (list_any less xs) (fails x (either_one (test x) rest h))
    (any_less test less fails xs (either_other (test x) rest h))

pub any_one : {T : Type 0} (f g : T → Bool) (xs : List T) → list_any (λ y. f y || g y) xs ≡ false
    → list_any f xs ≡ false
any_one f g = any_less (λ y. f y || g y) f (λ y. either_one (f y) (g y))

pub any_other : {T : Type 0} (f g : T → Bool) (xs : List T) → list_any (λ y. f y || g y) xs ≡ false
    → list_any g xs ≡ false
any_other f g = any_less (λ y. f y || g y) g (λ y. either_other (f y) (g y))

-- where each item is put behind those before it, a walk over what was written of them gives them
pub walk_back : {T : Type 0} (step : ℕ → List T → Data → Result (List T) ConfigNo)
    (write : T → Data) (all before rest : List T) (i : ℕ)
    → ((j : ℕ) (front : List T) (x : T) (behind : List T) → front ++ x ∷ behind ≡ all
    → step j front (write x) ≡ Ok (front ++ x ∷ []))
    → before ++ rest ≡ all → walk step i before (map write rest) ≡ Ok all
walk_back step write all before [] i each e = ap (λ l. Ok l) (sym (append-nil before) ∙ e)
walk_back step write all before (x ∷ rest) i each e =
    ap (λ r. then_unless_breach r (λ t. walk step (next_place i) t (map write rest))) (each i before x rest e)
    ∙ walk_back step write all (before ++ x ∷ []) rest (next_place i) each
    (append_assoc before (x ∷ []) rest ∙ e)
