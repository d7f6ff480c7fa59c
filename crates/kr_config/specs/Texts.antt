-- Settings as the text of a configuration: compact JSON with one provider an element, the members
-- by the bytes of their names.
use Rattle.std.specs.Prelude.{ℕ, List, ◌++◌, codes, map}
use Rattle.base64.specs.Engines.{standard}
use Rattle.base64.specs.GeneralPurpose.{encode_of}
use Rattle.serde_json.specs.Data.{Data, string, array, object, item, no_items, member, no_members}
use Rattle.serde_json.specs.View.{items_of}
use Rattle.serde_json.specs.Written.{compact_text}
use Rattle.kr_config.specs.declared.pattern.Pattern.{Pattern}
use Rattle.kr_config.specs.declared.pattern.Pattern.TheVariants.{Exact, Group, All}
use Rattle.kr_config.specs.declared.who.Who.{Who}
use Rattle.kr_config.specs.declared.who.Who.TheVariants.{Identity, Aescbc, Aesgcm, Kms}
use Rattle.kr_config.specs.Kept.{ConfigEntry}

abbrev pub pattern_text : Pattern → List ℕ
pattern_text (Exact text) = text
pattern_text (Group group) = codes "*." ++ group
pattern_text All = codes "*.*"

abbrev pub pattern_data : Pattern → Data
pattern_data pattern = string (pattern_text pattern)

-- an object of one member
abbrev pub single : List ℕ → Data → Data
single key value = object (member key value no_members)

-- one key, its secret in standard base64 with padding (RFC 4648)
abbrev pub key_data : (name secret : List ℕ) → Data
key_data name secret = object (member (codes "name") (string name)
    (member (codes "secret") (string (encode_of standard secret)) no_members))

abbrev pub keys_data : (name secret : List ℕ) → Data
keys_data name secret = single (codes "keys") (array (item (key_data name secret) no_items))

-- settings keep no endpoint: this one stands for it
abbrev pub plugin_data : List ℕ → Data
plugin_data name = object (member (codes "apiVersion") (string (codes "v2"))
    (member (codes "endpoint") (string (codes "unix:///" ++ name))
    (member (codes "name") (string name) no_members)))

abbrev pub element_data : Who → Data
element_data Identity = single (codes "identity") (object no_members)
element_data (Aescbc name secret) = single (codes "aescbc") (keys_data name secret)
element_data (Aesgcm name secret) = single (codes "aesgcm") (keys_data name secret)
element_data (Kms name) = single (codes "kms") (plugin_data name)

abbrev pub entry_data : ConfigEntry → Data
entry_data row = object
    (member (codes "providers") (array (items_of (map element_data row.providers)))
    (member (codes "resources") (array (items_of (map pattern_data row.patterns))) no_members))

abbrev pub settings_data : List ConfigEntry → Data
settings_data rows = object
    (member (codes "apiVersion") (string (codes "apiserver.config.k8s.io/v1"))
    (member (codes "kind") (string (codes "EncryptionConfiguration"))
    (member (codes "resources") (array (items_of (map entry_data rows))) no_members)))

abbrev pub settings_text : List ConfigEntry → List ℕ
settings_text rows = compact_text (settings_data rows)
