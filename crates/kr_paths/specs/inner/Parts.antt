-- A map in parts, and where a path stands among them.
use Rattle.std.specs.Prelude.{◌≡◌, ℕ, ◌<◌, Bool, true, false, List, [], ◌∷◌, ◌++◌, length, get_or, slice_set, Result, Ok, Err}
use Rattle.std.specs.List.{AllByRecursion}
use Rattle.std.specs.Ordering.{is_lt}
use Rattle.std.specs.declared.cmp.Ordering.TheVariants.{Less, Greater}
use Rattle.kr_paths.specs.Paths.{path_cmp, AreSorted}
use Rattle.kr_paths.specs.declared.spot.Spot.{Spot}

abbrev pub Entries : Type 0
Entries = List (List ℕ × ℕ)

-- the parts one after another
abbrev pub joined : List Entries → Entries
joined [] = []
joined (part ∷ parts) = part ++ joined parts

-- no part is empty, and all paths ascend
abbrev pub AreParts : List Entries → Type 0
AreParts parts = AllByRecursion (λ part. 0 < length part) parts × AreSorted (joined parts)

-- the path is above, or below, those of all entries
abbrev pub AllBelow : List ℕ → Entries → Type 0
AllBelow path entries = AllByRecursion (λ entry. path_cmp path entry.0 ≡ Greater) entries

abbrev pub AllAbove : List ℕ → Entries → Type 0
AllAbove path entries = AllByRecursion (λ entry. path_cmp path entry.0 ≡ Less) entries

-- whether the first path is above this one
abbrev pub is_above : List ℕ → Entries → Bool
is_above path [] = false
is_above path (entry ∷ entries) = is_lt (path_cmp path entry.0)

-- an entry with another number
abbrev pub with_number : Entries → ℕ → ℕ → Entries
with_number entries at number = slice_set entries at ((get_or entries at ([], 0)).0, number)

-- the path's entry stands first of these
abbrev pub Begins : List ℕ → Entries → Type 0
Begins path entries = (number : ℕ) × (rest : Entries) × (entries ≡ (path, number) ∷ rest)

-- the entries before the place, and the others
abbrev pub IsCut : List ℕ → Entries → ℕ → (Entries → Type 0) → Type 0
IsCut path entries at Others = (before : Entries) × (others : Entries)
    × (entries ≡ before ++ others) × (length before ≡ at) × AllBelow path before × Others others

-- where the path stands, or belongs
abbrev pub IsFound : List ℕ → Entries → Result ℕ ℕ → Type 0
IsFound path entries (Ok at) = IsCut path entries at (Begins path)
IsFound path entries (Err at) = IsCut path entries at (AllAbove path)

-- the part in which the path stands or belongs: below it are those before, above it those behind
pub record IsPartFor (path : List ℕ) (parts : List Entries) (at : ℕ) : Type 0 where
  pub before : List Entries
  pub own : Entries
  pub behind : List Entries
  pub parts_are : parts ≡ before ++ own ∷ behind
  pub place : length before ≡ at
  pub below : AllBelow path (joined before)
  pub above : AllAbove path (joined behind)

abbrev pub Stands : Bool → List ℕ → Entries → Type 0
Stands true path others = Begins path others
Stands false path others = AllAbove path others

abbrev pub IsSpot : List ℕ → List Entries → Spot → Type 0
IsSpot path parts spot = (part : IsPartFor path parts spot.part)
    × IsCut path part.own spot.place (Stands spot.there path)
