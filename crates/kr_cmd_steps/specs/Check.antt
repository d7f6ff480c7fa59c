-- What `check` writes of a configuration.
use Rattle.std.specs.Prelude.{ℕ, suc, List, [], ◌∷◌, ◌++◌, codes, decimal, map, Option, None, Some}
use Rattle.std.specs.List.{join_with_byte, concat}
use Rattle.kr_config.specs.Kept.{ConfigEntry}
use Rattle.kr_config.specs.Lists.{list_of}
use Rattle.kr_config.specs.declared.pattern.Pattern.{Pattern}
use Rattle.kr_config.specs.declared.pattern.Pattern.TheVariants.{Exact, Group, All}
use Rattle.kr_config.specs.declared.who.Who.{Who}
use Rattle.kr_config.specs.declared.who.Who.TheVariants.{Identity, Aescbc, Aesgcm, Kms}

-- a pattern as the file spells it
abbrev pub spelled_pattern_text : Pattern → List ℕ
spelled_pattern_text (Exact text) = text
spelled_pattern_text (Group group) = codes "*." ++ group
spelled_pattern_text All = codes "*.*"

abbrev pub provider_text : Who → List ℕ
provider_text Identity = codes "identity"
provider_text (Aescbc name secret) = codes "aescbc:" ++ name
provider_text (Aesgcm name secret) = codes "aesgcm:" ++ name
provider_text (Kms name) = codes "kms:" ++ name

abbrev pub with_commas : List (List ℕ) → List ℕ
with_commas texts = join_with_byte 0x2C texts

-- `entry I: PATTERNS: PROVIDERS`
abbrev pub entry_line : ℕ → ConfigEntry → List ℕ
entry_line i row =
    codes "entry " ++ (decimal i ++ (codes ": "
    ++ (with_commas (map spelled_pattern_text row.patterns)
    ++ (codes ": " ++ (with_commas (map provider_text row.providers) ++ codes "\n")))))

-- a line for each entry; the first has the number 0
abbrev pub lines_from : ℕ → List ConfigEntry → List ℕ
lines_from i [] = []
lines_from i (row ∷ rows) = entry_line i row ++ lines_from (suc i) rows

-- a provider a line
abbrev pub provider_lines : List Who → List ℕ
provider_lines providers = concat (map (λ who. provider_text who ++ codes "\n") providers)

-- all entries, or the provider list of a resource
abbrev pub listing : List ConfigEntry → Option (List ℕ) → List ℕ
listing rows None = lines_from 0 rows
listing rows (Some resource) = provider_lines (list_of rows resource)
