-- What is left of a list from a place on.
use Rattle.std.proofs.Common.{◌≡◌, ℕ, ◌<◌, ◌≤◌, ◌+◌, List, [], ◌∷◌, ◌++◌, None, Some, length, get_or, take, drop, map, refl, sym, ap, ◌∙◌}
use Rattle.std.specs.Option.{option_map}
use Rattle.std.proofs.lemmas.List.{take_more, drop_more, drop_all}
use Rattle.kr_judge.specs.Verdicts.{first}

pub drop_at : {X : Type 0} (xs : List X) (i : ℕ) (x : X) → i < length xs → x ≡ get_or xs i x → drop i xs ≡ x ∷ drop (i + 1) xs
drop_at xs i x h is = drop_more xs i x h ∙ ap (λ y. y ∷ drop (i + 1) xs) (sym is)

pub drop_end : {X : Type 0} (xs : List X) (i : ℕ) → length xs ≤ i → drop i xs ≡ []
drop_end xs i h = drop_all i xs h

pub take_at_more : {X : Type 0} (xs : List X) (i : ℕ) (x : X) → i < length xs → x ≡ get_or xs i x → take (i + 1) xs ≡ take i xs ++ x ∷ []
take_at_more xs i x h is = take_more xs i x h ∙ ap (λ y. take i xs ++ y ∷ []) (sym is)

-- the first of two lists together
pub first_none : {X : Type 0} (xs ys : List X) → None ≡ first xs → first (xs ++ ys) ≡ first ys
first_none [] ys h = refl
first_none (x ∷ xs) ys h = cc

pub first_some : {X : Type 0} (xs ys : List X) (y : X) → Some y ≡ first xs → first (xs ++ ys) ≡ Some y
first_some [] ys y h = cc
first_some (x ∷ xs) ys y h = sym h

pub first_map : {X Y : Type 0} (f : X → Y) (xs : List X) → first (map f xs) ≡ option_map f (first xs)
first_map f [] = refl
first_map f (x ∷ xs) = refl
