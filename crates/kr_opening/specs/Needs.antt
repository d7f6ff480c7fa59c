-- What live rows need, and which of them have no provider, or another secret than it has.
use Rattle.std.specs.Prelude.{◌≡◌, ℕ, false, List, [], ◌∷◌, is_some, if◌then◌else◌, Option, None, Some, IsSome}
use Rattle.std.specs.Option.{option_map}
use Rattle.kr_store.specs.declared.rows.LogRow.{LogRow}
use Rattle.kr_store.specs.declared.rows.Row as stored_row
use Rattle.kr_store.specs.declared.rows.Change.{Change}
use Rattle.kr_store.specs.declared.rows.Change.TheVariants as change
use Rattle.kr_store.specs.Rows.{latest, live}
use Rattle.kr_config.specs.declared.who.Who.{Who}
use Rattle.kr_config.specs.Kept.{ConfigEntry}
use Rattle.kr_config.specs.Lists.{list_of}
use Rattle.kr_provider.specs.Readers.{reader_in}
use Rattle.kr_judge.specs.declared.need.Need.{Need}
use Rattle.kr_judge.specs.Boards.{set_need}
use Rattle.kr_opening.specs.Checks.{keeps_check}

-- the provider by which a stored value reads: the one that the first replica's settings have for it
abbrev pub provider_of : (first : List ConfigEntry) → (resource stored : List ℕ) → Option Who
provider_of first resource stored = reader_in (list_of first resource) stored

-- what a row needs: nothing where it deletes, and where the first replica's settings have no
-- provider for it
abbrev pub need_of : (first : List ConfigEntry) → List ℕ → Change → Option Need
need_of first path (change.Put resource stored check) =
    option_map (λ who. record { path = path; resource = resource; who = who })
    (provider_of first resource stored)
need_of first path change.Delete = None

abbrev pub with_need : Option Need → List Need → List Need
with_need None needs = needs
with_need (Some need) needs = set_need needs need

-- what the rows need that are the last of their paths
abbrev pub needs_of : (first : List ConfigEntry) → List LogRow → List Need
needs_of first [] = []
needs_of first (row ∷ later) = if is_some (latest later row.path) then needs_of first later
    else with_need (need_of first row.path row.change) (needs_of first later)

-- each live row has a provider
abbrev pub HasNoStray : (first : List ConfigEntry) → List LogRow → Type 0
HasNoStray first rows = (path : List ℕ) (row : stored_row.Row) → live rows path ≡ Some row
    → IsSome (provider_of first row.resource row.stored)

-- the live row of the path was sealed with another secret than that of its provider
abbrev pub IsOtherSecret : (first : List ConfigEntry) → List LogRow → List ℕ → Type 0
IsOtherSecret first rows path = (row : stored_row.Row) × (who : Who) × (live rows path ≡ Some row)
    × (provider_of first row.resource row.stored ≡ Some who) × (keeps_check row.check who ≡ false)

-- no live row was
abbrev pub HasNoOtherSecret : (first : List ConfigEntry) → List LogRow → Type 0
HasNoOtherSecret first rows = (path : List ℕ) → IsOtherSecret first rows path → ⊥
