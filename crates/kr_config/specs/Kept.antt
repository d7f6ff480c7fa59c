-- What settings keep.
use Rattle.std.specs.Prelude.{ℕ, ◌&&◌, Bool, true, not, List, [], ◌∷◌, length, nat_le, map}
use Rattle.std.specs.Prelude.{count_by}
use Rattle.std.specs.List.{list_all, flat_map, sum_by}
use Rattle.kr_config.specs.declared.pattern.Pattern.{Pattern}
use Rattle.kr_config.specs.declared.who.Who.{Who}
use Rattle.kr_config.specs.declared.settings.Entry.{Entry}
use Rattle.kr_config.specs.declared.refusal.Counted.TheVariants.{Entries, Patterns, Keys, Plugins}
use Rattle.kr_config.specs.Refusals.{limit_of}
use Rattle.kr_config.specs.Patterns.{is_pattern, clash}
use Rattle.kr_config.specs.Providers.{is_provider, is_key, is_kms, plugins_among, rivals}

-- an entry as its two lists
pub record ConfigEntry : Type 0 where
  pub patterns : List Pattern
  pub providers : List Who

abbrev pub entry_lists : Entry → ConfigEntry
entry_lists entry = record { patterns = entry.patterns.0; providers = entry.providers.0 }

abbrev pub rows_of : List Entry → List ConfigEntry
rows_of entries = map entry_lists entries

-- no two items of a list clash
abbrev pub apart : {T : Type 0} → (T → T → Bool) → List T → Bool
apart clashes [] = true
apart clashes (x ∷ xs) = list_all (λ y. not (clashes x y)) xs && apart clashes xs

abbrev pub keeps_patterns : List Pattern → Bool
keeps_patterns patterns = nat_le 1 (length patterns) && list_all is_pattern patterns
    && apart clash patterns

abbrev pub keeps_providers : List Who → Bool
keeps_providers providers = nat_le 1 (length providers) && list_all is_provider providers
    && apart rivals providers

abbrev pub keeps_row : ConfigEntry → Bool
keeps_row row = keeps_patterns row.patterns && keeps_providers row.providers

abbrev pub patterns_in : List ConfigEntry → ℕ
patterns_in rows = sum_by (λ row. length row.patterns) rows

abbrev pub count_entry_keys : List ConfigEntry → ℕ
count_entry_keys rows = sum_by (λ row. count_by is_key row.providers) rows

abbrev pub kms_in : List ConfigEntry → ℕ
kms_in rows = sum_by (λ row. count_by is_kms row.providers) rows

-- the names of the plugins
abbrev pub plugins_in : List ConfigEntry → List (List ℕ)
plugins_in rows = flat_map (λ row. plugins_among row.providers) rows

-- 1 to 64 entries, each of which keeps the rules; in all at most 256 patterns, 64 keys and 16
-- plugins
unfoldable pub keeps : List ConfigEntry → Bool
keeps rows = nat_le 1 (length rows) && nat_le (length rows) (limit_of Entries)
    && list_all keeps_row rows
    && nat_le (patterns_in rows) (limit_of Patterns)
    && nat_le (count_entry_keys rows) (limit_of Keys)
    && nat_le (kms_in rows) (limit_of Plugins)
