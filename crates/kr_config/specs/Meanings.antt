-- What the bytes of a configuration mean: its entries, or the first breach.
use Rattle.std.specs.Prelude.{◌≡◌, ℕ, ◌==◌, ◌||◌, Bool, true, false, List, [], ◌∷◌, ⊤, Result, Ok}
use Rattle.std.specs.Prelude.{Err, if◌then◌else◌}
use Rattle.std.specs.Option.{option_map_or}
use Rattle.std.specs.Str.{is_utf8}
use Rattle.serde_json.specs.Read.{read}
use Rattle.kr_yaml.specs.Data.{Data}
use Rattle.kr_config.specs.declared.refusal.Rule.TheVariants as rule
use Rattle.kr_config.specs.declared.refusal.YamlRule.TheVariants as yaml_rule
use Rattle.kr_config.specs.declared.refusal.ConfigNo.{ConfigNo}
use Rattle.kr_config.specs.declared.refusal.ConfigNo.TheVariants.{Breach, Yaml}
use Rattle.kr_config.specs.declared.refusal.ConfigErr.{ConfigErr}
use Rattle.kr_config.specs.declared.refusal.ConfigErr.TheVariants.{No, NoMemory}
use Rattle.kr_config.specs.declared.settings.Settings.{Settings}
use Rattle.kr_config.specs.Kept.{ConfigEntry, rows_of}
use Rattle.kr_config.specs.Walk.{start, breach, then_unless_breach, config_in}
use Rattle.kr_config.specs.Yaml.{json_of, TreeOf}

-- the first byte other than space, tab, CR and LF is `{`
abbrev pub is_json_blank : ℕ → Bool
is_json_blank byte = (byte == 0x20) || (byte == 0x09) || (byte == 0x0D) || (byte == 0x0A)

abbrev pub begins_json : List ℕ → Bool
begins_json [] = false
begins_json (byte ∷ bytes) = if is_json_blank byte then begins_json bytes else (byte == 0x7B)

-- a text in JSON, and then the walk over its tree
unfoldable pub json_rows : List ℕ → Result (List ConfigEntry) ConfigNo
json_rows text = option_map_or config_in (read text) (breach rule.Json start)

-- a text in YAML, and then the same walk over its tree
abbrev pub MeansYaml : List ℕ → Result (List ConfigEntry) ConfigNo → Type 0
MeansYaml text rows = (tree : Result Data ConfigNo) × TreeOf text tree
    × (then_unless_breach tree (λ d. config_in (json_of d)) ≡ rows)

-- a text that begins as JSON is JSON, and any other YAML
abbrev pub TextMeans : Bool → List ℕ → Result (List ConfigEntry) ConfigNo → Type 0
TextMeans true text rows = json_rows text ≡ rows
TextMeans false text rows = MeansYaml text rows

-- bytes that aren't UTF-8
abbrev pub no_text : Bool → ConfigNo
no_text true = Breach rule.Json start
no_text false = Yaml yaml_rule.NotUtf8 0

abbrev pub MeansBy : Bool → List ℕ → Result (List ConfigEntry) ConfigNo → Type 0
MeansBy true bytes rows = TextMeans (begins_json bytes) bytes rows
MeansBy false bytes rows = Err (no_text (begins_json bytes)) ≡ rows

abbrev pub MeansConfig : List ℕ → Result (List ConfigEntry) ConfigNo → Type 0
MeansConfig bytes rows = MeansBy (is_utf8 bytes) bytes rows

-- the settings of the entries that are meant, or the breach; want of memory may take the place of
-- either
abbrev pub ReadsSettings : (Result (List ConfigEntry) ConfigNo → Type 0) → Result Settings ConfigErr
    → Type 0
ReadsSettings Meant (Ok settings) = Meant (Ok (rows_of settings.entries.0))
ReadsSettings Meant (Err (No why)) = Meant (Err why)
ReadsSettings Meant (Err NoMemory) = ⊤
