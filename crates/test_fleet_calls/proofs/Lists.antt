-- What holds of each item of a list.
use Rattle.std.proofs.Common.{◌≡◌, suc, List, [], ◌∷◌, refl, arith, Contains, All}
use Rattle.std.proofs.lemmas.List.Elements.{All-cons, All-nil}

there_later : {X : Type 0} (xs : List X) (x y : X) → Contains xs y → Contains (x ∷ xs) y
there_later xs x y c = (suc c.0, omega (arith, c.1), c.2)

pub from_each : {X : Type 0} (P : X → Type 0) (xs : List X)
    → ((x : X) → Contains xs x → P x) → All P xs
from_each P [] h = All-nil P
from_each P (x ∷ xs) h = All-cons P x xs (h x (0, omega arith, refl))
    (from_each P xs (λ y c. h y (there_later xs x y c)))
