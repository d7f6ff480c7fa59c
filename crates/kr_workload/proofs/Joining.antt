-- Texts that are joined from pieces: a format joins them from the last one on, a definition from
-- the first one on.
use Rattle.std.proofs.Common.{◌≡◌, ℕ, List, [], ◌∷◌, ◌++◌, refl, sym, ◌∙◌}
use Rattle.std.proofs.lemmas.List.{append_assoc}

-- from the last piece on
abbrev pub from_last : List ℕ → List (List ℕ) → List ℕ
from_last text [] = text
from_last text (piece ∷ pieces) = text ++ from_last piece pieces

-- from the first piece on
abbrev pub from_first : List ℕ → List (List ℕ) → List ℕ
from_first text [] = text
from_first text (piece ∷ pieces) = from_first (text ++ piece) pieces

begun : (text piece : List ℕ) (pieces : List (List ℕ))
    → from_last (text ++ piece) pieces ≡ text ++ from_last piece pieces
begun text piece [] = refl
begun text piece (next ∷ pieces) = append_assoc text piece (from_last next pieces)

pub joined : (text : List ℕ) (pieces : List (List ℕ))
    → from_last text pieces ≡ from_first text pieces
joined text [] = refl
joined text (piece ∷ pieces) = sym (begun text piece pieces) ∙ joined (text ++ piece) pieces
