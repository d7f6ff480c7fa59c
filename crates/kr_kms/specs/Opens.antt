-- What each wrapped source opens to.
use Rattle.std.specs.Prelude.{◌≡◌, ℕ, List, Option, Some, All}
use Rattle.kr_kms.specs.declared.seeds.SeedKey.{SeedKey}
use Rattle.kr_kms.specs.declared.seeds.SeedRow.{SeedRow}

-- what the source opens to under the plugin's name, the key id and the annotations, or nothing
abbrev pub Opens : Type 0
Opens = SeedKey → Option (List ℕ)

-- what stands with a seed names it
abbrev pub key_of : SeedRow → SeedKey
key_of row = record {
  name = row.name;
  key_id = row.key_id;
  annotations = row.annotations;
  source = row.source;
}

-- each wrapped source opens to the seed that stands with it
abbrev pub OpenAll : Opens → List SeedRow → Type 0
OpenAll opens rows = All (λ row. opens (key_of row) ≡ Some row.seed) rows
