-- What was got, as it is lent.
use Rattle.std.specs.Prelude.{ℕ, List, [], ◌∷◌, map, Option, None, Some}
use denote.Ref.{Bor}
use Rattle.kr_workload.specs.Summaries.{GotObjects}

-- `List ℕ`, where a file means kr_base's `List` by that name
abbrev pub Bytes : Type 0
Bytes = List ℕ

-- a path and its data, lent
abbrev pub LentPair : Type 0
LentPair = Bor (List ℕ) × Bor (List ℕ)

abbrev pub lent_pair : LentPair → List ℕ × List ℕ
lent_pair pair = (pair.0.now, pair.1.now)

abbrev pub lent_pairs : List LentPair → GotObjects
lent_pairs pairs = map lent_pair pairs

-- of a pair, if there is one
abbrev pub lent_list : Option LentPair → GotObjects
lent_list None = []
lent_list (Some pair) = lent_pair pair ∷ []
