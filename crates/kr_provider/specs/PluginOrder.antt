-- The names of the plugins, each once, in the order of their bytes, and what publishing makes of
-- them one by one.
use Rattle.std.specs.Prelude.{◌≡◌, ℕ, List, [], ◌∷◌, ◌++◌, Option, if◌then◌else◌}
use Rattle.std.specs.Io.KnownBytes.{Consumes}
use Rattle.std.specs.Ordering.{is_lt}
use Rattle.kr_config.specs.Kept.{ConfigEntry, plugins_in}
use Rattle.kr_config.specs.Nexts.{name_cmp}
use Rattle.kr_kms.specs.Calls.{Link}
use Rattle.kr_kms.specs.Seeds.{IsSeedRow}
use Rattle.kr_kms.specs.declared.seeds.SeedRow.{SeedRow}
use Rattle.kr_provider.specs.AskedLinks.{HasLinkWith}
use Rattle.kr_provider.specs.Publishing.{IsHealthy}

-- a name joins others that are in order, where it isn't among them
abbrev pub insert_name : List ℕ → List (List ℕ) → List (List ℕ)
insert_name name [] = name ∷ []
insert_name name (other ∷ others) = if is_lt (name_cmp name other) then name ∷ (other ∷ others)
    else (if is_lt (name_cmp other name) then other ∷ insert_name name others
    else other ∷ others)

abbrev pub names_in_order : List (List ℕ) → List (List ℕ)
names_in_order [] = []
names_in_order (name ∷ names) = insert_name name (names_in_order names)

-- those that the entries name
abbrev pub plugin_order : List ConfigEntry → List (List ℕ)
plugin_order rows = names_in_order (plugins_in rows)

module _ {L : Type 0} (link : L → Link) (links : List L) where
  -- a seed of the plugin of this name, which was healthy
  pub record IsSeedBy (name : List ℕ) (row : SeedRow) : Type 0 where
    pub name_is : row.name ≡ name
    pub healthy : HasLinkWith link name IsHealthy links
    pub row_is : IsSeedRow row

  -- one for each of the names, of the bytes that come next
  abbrev pub MakesEach : List (List ℕ) → List SeedRow → (old new : Option (List ℕ)) → Type 0
  MakesEach [] [] old new = Consumes old new []
  MakesEach [] (row ∷ made) old new = ⊥
  MakesEach (name ∷ names) [] old new = ⊥
  MakesEach (name ∷ names) (row ∷ made) old new = IsSeedBy name row
      × ((rest : Option (List ℕ)) × Consumes old rest row.seed × MakesEach names made rest new)

  -- one for each of the names before this one; then these bytes were drawn
  pub record MakesBefore (names : List (List ℕ)) (name drawn : List ℕ)
      (old new : Option (List ℕ)) : Type 0 where
    pub front : List (List ℕ)
    pub behind : List (List ℕ)
    pub names_are : names ≡ front ++ name ∷ behind
    pub made : List SeedRow
    pub rest : Option (List ℕ)
    pub makes : MakesEach front made old rest
    pub draws : Consumes rest new drawn
