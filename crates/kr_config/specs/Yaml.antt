-- What a text in YAML means: its tree in JSON's form, so that one walk serves both.
use Rattle.std.specs.Prelude.{◌≡◌, ℕ, List, Result, Ok, Err}
use Rattle.serde_json.specs.Data.{Data, null, string, array, object, Items, no_items, item, Members}
use Rattle.serde_json.specs.Data.{no_members, put}
use Rattle.kr_yaml.specs.Data as yaml
use Rattle.kr_yaml.specs.Texts.{text_tokens}
use Rattle.kr_yaml.specs.Reads.{HasTree, Refuses}
use Rattle.kr_yaml.specs.declared.yaml_no.YamlNo.{YamlNo}
use Rattle.kr_yaml.specs.declared.yaml_no.YamlNo.TheVariants.{Outside, Indent, DuplicateKey, Deep}
use Rattle.kr_yaml.specs.declared.yaml_no.YamlNo.TheVariants.{NoMemory}
use Rattle.kr_config.specs.declared.refusal.YamlRule.TheVariants as yaml_rule
use Rattle.kr_config.specs.declared.refusal.ConfigNo.{ConfigNo}
use Rattle.kr_config.specs.declared.refusal.ConfigNo.TheVariants.{Yaml}

-- nothing is null and a word a text; lists and mappings stay, with a mapping's members put in one
-- after another
abbrev mutual
  pub json_of : yaml.Data → Data
  json_of yaml.null = null
  json_of (yaml.word text) = string text
  json_of (yaml.list ds) = array (json_items ds)
  json_of (yaml.mapping ms) = object (json_members no_members ms)

  pub json_items : yaml.Items → Items
  json_items yaml.no_items = no_items
  json_items (yaml.item d ds) = item (json_of d) (json_items ds)

  pub json_members : Members → yaml.Members → Members
  json_members done yaml.no_members = done
  json_members done (yaml.member key d ms) = json_members (put key (json_of d) done) ms

-- a breach of the YAML profile, as the configuration's
abbrev pub IsBreachOf : YamlNo → ConfigNo → Type 0
IsBreachOf (Outside line) why = why ≡ Yaml yaml_rule.Outside line
IsBreachOf (Indent line) why = why ≡ Yaml yaml_rule.Indent line
IsBreachOf (DuplicateKey line) why = why ≡ Yaml yaml_rule.DuplicateKey line
IsBreachOf (Deep line) why = why ≡ Yaml yaml_rule.Deep line
IsBreachOf NoMemory why = ⊥

-- a text's tree, or its first breach
abbrev pub TreeOf : List ℕ → Result yaml.Data ConfigNo → Type 0
TreeOf text (Ok d) = HasTree (text_tokens text) d
TreeOf text (Err why) = (breach : YamlNo) × Refuses (text_tokens text) breach
    × IsBreachOf breach why
