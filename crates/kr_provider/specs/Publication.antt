-- A published configuration: settings with one wrapped seed for each plugin that they name.
use Rattle.std.specs.Prelude.{◌≡◌, ℕ, ◌≤◌, ◌↔◌, Bool, true, IsTrue, List, length, map, All, Contains, find, Option, Some, ⊤}
use Rattle.std.specs.List.{list_all, list_any}
use Rattle.std.specs.List.Sorted.{IsStrictlySortedBy}
use Rattle.std.specs.Ordering.{nat_cmp}
use Rattle.std.specs.Cmp.Lexicographic.{slice_cmp}
use Rattle.std.specs.Str.{bytes_eq}
use Rattle.kr_config.specs.declared.who.Who.{Who}
use Rattle.kr_config.specs.declared.who.Who.TheVariants.{Identity, Aescbc, Aesgcm, Kms}
use Rattle.kr_config.specs.Kept.{ConfigEntry, keeps, plugins_in}
use Rattle.kr_config.specs.Lists.{list_of}
use Rattle.kr_config.specs.Providers.{is_kms, is_provider}
use Rattle.kr_kms.specs.declared.seeds.SeedRow.{SeedRow}
use Rattle.kr_kms.specs.Seeds.{IsSeedRow}
use Rattle.kr_kms.specs.Opens.{Opens, key_of}
use Rattle.kr_provider.specs.Readers.{writer_of}

-- the entries of the settings, and the seeds
pub record Publication : Type 0 where
  pub rows : List ConfigEntry
  pub seeds : List SeedRow

-- whether some entries name a plugin
abbrev pub names_plugin : List ConfigEntry → Bool
names_plugin rows = list_any (λ row. list_any is_kms row.providers) rows

-- the settings keep their rules, and there is one seed for each plugin that they name, by the bytes
-- of the name
pub record IsPublished (p : Publication) : Type 0 where
  pub kept : IsTrue (keeps p.rows)
  pub ascend : IsStrictlySortedBy (slice_cmp nat_cmp) (map (λ row. row.name) p.seeds)
  pub names : (name : List ℕ) → Contains (map (λ row. row.name) p.seeds) name
      ↔ Contains (plugins_in p.rows) name
  pub seeds : All IsSeedRow p.seeds

-- the seed of a plugin
abbrev pub seed_of : List ℕ → List SeedRow → Option SeedRow
seed_of name seeds = find (λ row. bytes_eq row.name name) seeds

-- the wrapped source of a plugin's seed opens to the seed
abbrev pub SeedOpens : Opens → List SeedRow → Who → Type 0
SeedOpens opens seeds Identity = ⊤
SeedOpens opens seeds (Aescbc name secret) = ⊤
SeedOpens opens seeds (Aesgcm name secret) = ⊤
SeedOpens opens seeds (Kms name) =
    (row : SeedRow) → seed_of name seeds ≡ Some row → opens (key_of row) ≡ Some row.seed

-- the providers of a resource, and the one that writes
abbrev pub list_at : Publication → List ℕ → List Who
list_at p resource = list_of p.rows resource

abbrev pub writer_at : Publication → List ℕ → Who
writer_at p resource = writer_of (list_at p resource)

-- a list of providers as settings have it
pub record IsProviderList (list : List Who) : Type 0 where
  pub some : 1 ≤ length list
  pub providers : list_all is_provider list ≡ true
