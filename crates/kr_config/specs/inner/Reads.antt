-- How a call's answer stands to what is meant: want of memory may take the place of any other
-- answer.
use Rattle.std.specs.Prelude.{◌≡◌, IsOk, ℕ, ⊤, List, Option, None, Some, Result, Ok, Err, map}
use denote.Ref.{Bor}
use Rattle.serde_json.specs.Data.{Data}
use Rattle.kr_yaml.specs.Data as yaml
use Rattle.kr_yaml.specs.declared.yaml_no.YamlNo.{YamlNo}
use Rattle.kr_yaml.specs.declared.yaml_no.YamlNo.TheVariants as yaml_no
use Rattle.kr_config.specs.Yaml.{json_of, IsBreachOf, TreeOf}
use Rattle.serde_json.specs.View.{view}
use Rattle.serde_json.specs.declared.value.Value.{Value}
use Rattle.kr_config.specs.declared.refusal.ConfigNo.{ConfigNo}
use Rattle.kr_config.specs.declared.refusal.ConfigErr.{ConfigErr}
use Rattle.kr_config.specs.declared.refusal.ConfigErr.TheVariants.{No, NoMemory}
use Rattle.kr_config.specs.declared.reading.JsonNo.{JsonNo}
use Rattle.kr_config.specs.declared.reading.JsonNo.TheVariants.{Form}
use Rattle.kr_config.specs.declared.reading.JsonNo.TheVariants as json
use Rattle.kr_config.specs.declared.settings.Entry.{Entry}
use Rattle.kr_config.specs.Kept.{ConfigEntry, entry_lists, rows_of}

abbrev pub Reads : {T : Type 0} → Result T ConfigNo → Result T ConfigErr → Type 0
Reads wanted (Ok x) = wanted ≡ Ok x
Reads wanted (Err (No why)) = wanted ≡ Err why
Reads wanted (Err NoMemory) = ⊤

-- the entries that are meant, or the breach
abbrev pub ReadsMeant : (Result (List ConfigEntry) ConfigNo → Type 0)
    → Result (List Entry × ℕ) ConfigErr
    → Type 0
ReadsMeant Meant (Ok entries) = Meant (Ok (rows_of entries.0))
ReadsMeant Meant (Err (No why)) = Meant (Err why)
ReadsMeant Meant (Err NoMemory) = ⊤

-- a breach of the YAML profile as the configuration's
abbrev pub Restates : YamlNo → ConfigErr → Type 0
Restates breach (No why) = IsBreachOf breach why
Restates breach NoMemory = breach ≡ yaml_no.NoMemory

-- the tree of a text in YAML, as a value, or the breach
abbrev pub ReadsYaml : List ℕ → Result Value ConfigErr → Type 0
ReadsYaml text (Ok value) = (d : yaml.Data) × TreeOf text (Ok d) × (view value ≡ json_of d)
ReadsYaml text (Err (No why)) = TreeOf text (Err why)
ReadsYaml text (Err NoMemory) = ⊤

-- a list that the call went on with is now the one that is meant
abbrev pub ReadsInto : {T U : Type 0} → Result (List T) ConfigNo → List T → Result U ConfigErr
    → Type 0
ReadsInto wanted new (Ok x) = wanted ≡ Ok new
ReadsInto wanted new (Err (No why)) = wanted ≡ Err why
ReadsInto wanted new (Err NoMemory) = ⊤

-- a list, an entry and entries, as what they hold
abbrev pub ReadsList : {T : Type 0} → Result (List T) ConfigNo → Result (List T × ℕ) ConfigErr
    → Type 0
ReadsList wanted (Ok list) = wanted ≡ Ok list.0
ReadsList wanted (Err (No why)) = wanted ≡ Err why
ReadsList wanted (Err NoMemory) = ⊤

abbrev pub ReadsEntry : Result ConfigEntry ConfigNo → Result Entry ConfigErr → Type 0
ReadsEntry wanted (Ok entry) = wanted ≡ Ok (entry_lists entry)
ReadsEntry wanted (Err (No why)) = wanted ≡ Err why
ReadsEntry wanted (Err NoMemory) = ⊤

abbrev pub ReadsEntries : Result (List ConfigEntry) ConfigNo → Result (List Entry × ℕ) ConfigErr
    → Type 0
ReadsEntries wanted (Ok entries) = wanted ≡ Ok (rows_of entries.0)
ReadsEntries wanted (Err (No why)) = wanted ≡ Err why
ReadsEntries wanted (Err NoMemory) = ⊤

-- the value of a text in JSON; `Form` exactly where there is none
abbrev pub ReadsJson : Option Data → Result Value JsonNo → Type 0
ReadsJson wanted (Ok value) = wanted ≡ Some (view value)
ReadsJson wanted (Err Form) = wanted ≡ None
ReadsJson wanted (Err json.NoMemory) = ⊤

-- the values of a tree that are lent
abbrev pub Lends : Result (List Data) ConfigNo → Result (Bor (List Value)) ConfigNo → Type 0
Lends wanted (Ok values) = wanted ≡ Ok (map view values.now)
Lends wanted (Err why) = wanted ≡ Err why

-- a check that answers nothing where it passes
abbrev pub Checks : {T U : Type 0} → Result T ConfigNo → Result U ConfigNo → Type 0
Checks wanted (Ok x) = IsOk wanted
Checks wanted (Err why) = wanted ≡ Err why
