-- Paths in their order.
use Rattle.std.specs.Prelude.{ℕ, Bool, List, [], ◌∷◌, Option, None, Some}
use Rattle.std.specs.Ordering.{nat_cmp}
use Rattle.std.specs.declared.cmp.Ordering.{Ordering}
use Rattle.std.specs.Cmp.Lexicographic.{slice_cmp}
use Rattle.std.specs.List.Sorted.{IsStrictlySortedBy}
use Rattle.std.specs.List.{filter}
use Rattle.std.specs.Ordering.{is_lt}
use Rattle.std.specs.Map.{keys_of}

-- the order of the bytes
abbrev pub path_cmp : List ℕ → List ℕ → Ordering
path_cmp a b = slice_cmp nat_cmp a b

-- the paths ascend
abbrev pub AreSorted : List (List ℕ × ℕ) → Type 0
AreSorted entries = IsStrictlySortedBy path_cmp (keys_of entries)

-- the first of some entries
abbrev pub first : List (List ℕ × ℕ) → Option (List ℕ × ℕ)
first [] = None
first (entry ∷ entries) = Some entry

-- whether the entry's path is above this one
abbrev pub is_behind : List ℕ → List ℕ × ℕ → Bool
is_behind path entry = is_lt (path_cmp path entry.0)

-- the first entry whose path is above this one
abbrev pub successor : List ℕ → List (List ℕ × ℕ) → Option (List ℕ × ℕ)
successor path entries = first (filter (is_behind path) entries)
