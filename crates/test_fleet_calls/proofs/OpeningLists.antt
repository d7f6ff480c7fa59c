-- What is there in a list.
use Rattle.std.proofs.Common.{◌≡◌, List, [], ◌∷◌, ◌++◌, Option, None, Some, sym, subst, Contains, All}
use Rattle.std.specs.Prelude.{IfSome}
use Rattle.std.proofs.lemmas.List.Elements.{All-cons, All-contains, All-contains_itself, All-head, All-nil, All-tail}

all_split : {X : Type 0} (P : X → Type 0) (xs : List X) (x : X) → All P (xs ++ x ∷ [])
    → All P xs × P x
all_split P [] x a = (All-nil P, All-head P x [] a)
all_split P (y ∷ xs) x a =
    let rest = all_split P xs x (All-tail P y (xs ++ x ∷ []) a) in
    (All-cons P y xs (All-head P y (xs ++ x ∷ []) a) rest.0, rest.1)

module _ {X : Type 0} (rest all : List X) (last : X) where
  there_too : all ≡ rest ++ last ∷ [] → All (Contains all) rest × Contains all last
  there_too split = all_split (Contains all) rest last
      (subst (All (Contains all)) split (All-contains_itself all))

  pub last_there : all ≡ rest ++ last ∷ [] → Contains all last
  last_there split = (there_too split).1

  -- so are the last two
  pub two_there : {F : Type 0} (fleet : F) (result : Option (F × X × X))
      → all ≡ rest ++ last ∷ []
      → IfSome result (λ two. (two.0 ≡ fleet) × Contains rest two.1 × (two.2 ≡ last))
      → IfSome result (λ two. (two.0 ≡ fleet) × Contains all two.1 × Contains all two.2)
  two_there fleet None split i = tt
  two_there fleet (Some two) split i = (
    i.0,
    All-contains (Contains all) rest two.1 (there_too split).0 i.1,
    subst (Contains all) (sym i.2) (there_too split).1,
  )
