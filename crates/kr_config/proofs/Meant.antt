-- What bytes mean, step by step.
use Rattle.std.proofs.Common.{◌≡◌, ℕ, Bool, true, false, List, Ok, Err, refl, sym, ◌∙◌, ap, subst}
use Rattle.std.specs.Prelude.{Result}
use Rattle.std.specs.Str.{IsUtf8, is_utf8}
use Rattle.std.proofs.lemmas.Str.{IsUtf8-from_is_utf8, is_utf8-from_IsUtf8}
use Rattle.serde_json.specs.Read.{read}
use Rattle.serde_json.specs.View.{view}
use Rattle.serde_json.specs.declared.value.Value.{Value}
use Rattle.kr_config.specs.declared.refusal.ConfigNo.{ConfigNo}
use Rattle.kr_config.specs.declared.refusal.ConfigErr.{ConfigErr}
use Rattle.kr_config.specs.declared.refusal.ConfigErr.TheVariants.{No, NoMemory}
use Rattle.kr_config.specs.declared.settings.Entry.{Entry}
use Rattle.kr_config.specs.Kept.{ConfigEntry, keeps}
use Rattle.kr_config.specs.Walk.{config_in}
use Rattle.kr_config.specs.Yaml.{json_of}
use Rattle.kr_config.specs.Meanings.{begins_json, json_rows, MeansYaml, TextMeans, no_text, MeansBy}
use Rattle.kr_config.specs.Meanings.{MeansConfig}
use Rattle.kr_config.specs.Meanings.{ReadsSettings}
use Rattle.kr_config.specs.inner.Reads.{ReadsEntries, ReadsMeant, ReadsYaml}
use Rattle.kr_config.proofs.Inversions.{some_ok, and_then_ok}
use Rattle.kr_config.proofs.KeptRows.{config_kept}

-- entries that are meant keep the rules
json_kept : (text : List ℕ) (rows : List ConfigEntry) → json_rows text ≡ Ok rows → keeps rows ≡ true
unfolding json_rows
json_kept text rows h =
    let a = some_ok (read text) config_in _ rows h in
    config_kept a.0 rows a.2

pub text_kept : (is_json : Bool) (text : List ℕ) (rows : List ConfigEntry)
    → TextMeans is_json text (Ok rows) → keeps rows ≡ true
text_kept true text rows h = json_kept text rows h
text_kept false text rows h =
    let a = and_then_ok h.0 (λ d. config_in (json_of d)) rows h.2 in
    config_kept (json_of a.0) rows a.2

-- a text in YAML
pub yaml_walked : (text : List ℕ) (value : Value) (result : Result (List Entry × ℕ) ConfigErr)
    → ReadsYaml text (Ok value) → ReadsEntries (config_in (view value)) result
    → ReadsMeant (MeansYaml text) result
yaml_walked text value (Ok entries) tree h = (Ok tree.0, tree.1, ap config_in (sym tree.2) ∙ h)
yaml_walked text value (Err (No why)) tree h = (Ok tree.0, tree.1, ap config_in (sym tree.2) ∙ h)
yaml_walked text value (Err NoMemory) tree h = tt

pub yaml_broken : (text : List ℕ) (why : ConfigErr) → ReadsYaml text (Err why)
    → ReadsMeant (MeansYaml text) (Err why)
yaml_broken text (No why) h = (Err why, h, refl)
yaml_broken text NoMemory h = tt

-- from bytes to the text that is read
means_text : (is_json : Bool) (bytes text : List ℕ) (rows : Result (List ConfigEntry) ConfigNo)
    → is_json ≡ begins_json bytes → text ≡ bytes → IsUtf8 bytes → TextMeans is_json text rows
    → MeansConfig bytes rows
means_text is_json bytes text rows form is utf8 h =
    subst (λ b. MeansBy b bytes rows) (sym (is_utf8-from_IsUtf8 bytes utf8))
    (subst (λ b. TextMeans b bytes rows) form (subst (λ t. TextMeans is_json t rows) is h))

pub entries_meant : (is_json : Bool) (bytes text : List ℕ)
    (result : Result (List Entry × ℕ) ConfigErr) → is_json ≡ begins_json bytes → text ≡ bytes
    → IsUtf8 bytes → ReadsMeant (TextMeans is_json text) result → ReadsMeant (MeansConfig bytes) result
entries_meant is_json bytes text (Ok entries) form is utf8 h =
    means_text is_json bytes text _ form is utf8 h
entries_meant is_json bytes text (Err (No why)) form is utf8 h =
    means_text is_json bytes text _ form is utf8 h
entries_meant is_json bytes text (Err NoMemory) form is utf8 h = tt

pub no_text_meant : (bytes : List ℕ) (why : ConfigNo) → (IsUtf8 bytes → ⊥)
    → why ≡ no_text (begins_json bytes) → MeansConfig bytes (Err why)
no_text_meant bytes why n is = by (is_utf8 bytes) refl
  where
    by : (b : Bool) → is_utf8 bytes ≡ b → MeansBy b bytes (Err why)
    by true t = absurd (n (IsUtf8-from_is_utf8 bytes t))
    by false t = ap Err (sym is)

-- a refusal that is handed on
pub hand_on : (bytes : List ℕ) (why : ConfigErr) → ReadsMeant (MeansConfig bytes) (Err why)
    → ReadsSettings (MeansConfig bytes) (Err why)
hand_on bytes (No why) h = h
hand_on bytes NoMemory h = tt
