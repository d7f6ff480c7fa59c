-- The names of the plugins that links lead to.
use Rattle.std.specs.Prelude.{ℕ, List, map, Contains, Option, None, Some, ⊤}
use Rattle.std.specs.List.{IsDistinct}
use Rattle.std.specs.Str.{bytes_eq}
use Rattle.kr_config.specs.Kept.{ConfigEntry, plugins_in}
use Rattle.kr_kms.specs.Calls.{Link}
use Rattle.kr_provider.specs.Publication.{Publication}

abbrev pub names_of : {L : Type 0} → (L → Link) → List L → List (List ℕ)
names_of link links = map (λ l. (link l).name) links

abbrev pub AreDistinct : {L : Type 0} → (L → Link) → List L → Type 0
AreDistinct link links = IsDistinct bytes_eq (names_of link links)

-- there is a link to each plugin that the entries name
abbrev pub HasLinks : List (List ℕ) → List ConfigEntry → Type 0
HasLinks names rows = (name : List ℕ) → Contains (plugins_in rows) name → Contains names name

-- and to each of the configuration that was adopted
abbrev pub HasAdoptedLinks : List (List ℕ) → Option Publication → Type 0
HasAdoptedLinks names None = ⊤
HasAdoptedLinks names (Some p) = HasLinks names p.rows
