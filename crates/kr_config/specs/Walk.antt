-- The walk over a configuration's tree. Its first breach decides, with its place: the numbers of an
-- entry, and of the pattern or provider element in it, each from 0.
use Rattle.std.specs.Prelude.{ℕ, ◌+◌, ◌==◌, ◌&&◌, ◌||◌, nat_lt, nat_le, Bool, true, false, List, []}
use Rattle.std.specs.Prelude.{◌∷◌, ◌++◌, length, take, count_by, codes, Option, None, Some, Result}
use Rattle.std.specs.Prelude.{Ok, Err, if◌then◌else◌, option_and_then, is_some}
use Rattle.std.specs.List.{list_any, before_first}
use Rattle.std.specs.Option.{option_map_or}
use Rattle.std.specs.Result.{result_ok}
use Rattle.std.specs.Str.{bytes_eq}
use Rattle.serde_json.specs.Data.{Data, Items}
use Rattle.serde_json.specs.Data as json
use Rattle.serde_json.specs.Find.{get, as_null, as_str, as_array, as_object}
use Rattle.base64.specs.Engines.{standard}
use Rattle.base64.specs.GeneralPurpose.{decode_of}
use Rattle.kr_base.specs.Numbering.{next_place}
use Rattle.kr_base.specs.Rules.{is_name, is_resource}
use Rattle.kr_config.specs.declared.pattern.Pattern.{Pattern}
use Rattle.kr_config.specs.declared.pattern.Pattern.TheVariants.{Exact, Group, All}
use Rattle.kr_config.specs.declared.who.Who.{Who}
use Rattle.kr_config.specs.declared.who.Who.TheVariants.{Identity, Aescbc, Aesgcm, Kms}
use Rattle.kr_config.specs.declared.refusal.Rule.{Rule}
use Rattle.kr_config.specs.declared.refusal.Rule.TheVariants as rule
use Rattle.kr_config.specs.declared.refusal.Counted.{Counted}
use Rattle.kr_config.specs.declared.refusal.Counted.TheVariants.{Entries, Patterns, Keys, Plugins}
use Rattle.kr_config.specs.declared.refusal.ConfigNo.{ConfigNo}
use Rattle.kr_config.specs.declared.refusal.ConfigNo.TheVariants.{Breach, Limit}
use Rattle.kr_config.specs.Refusals.{limit_of}
use Rattle.kr_config.specs.declared.place.ConfigPlace.{ConfigPlace}
use Rattle.kr_config.specs.declared.place.Counts.{Counts}
use Rattle.kr_config.specs.declared.provider.Cipher.{Cipher}
use Rattle.kr_config.specs.declared.provider.Cipher.TheVariants as cipher
use Rattle.kr_config.specs.Patterns.{resource_group, is_group_name, same, overlap}
use Rattle.kr_config.specs.Providers.{is_secret, is_key, is_kms, rivals}
use Rattle.kr_config.specs.Kept.{ConfigEntry, patterns_in, count_entry_keys, kms_in}

-- a rule is broken at this place
abbrev pub breach : {T : Type 0} → Rule → ConfigPlace → Result T ConfigNo
breach broken place = Err (Breach broken place)

-- there are too many of these
abbrev pub over_limit : {T : Type 0} → Counted → Result T ConfigNo
over_limit counted = Err (Limit counted)

abbrev pub place_at : ℕ → ℕ → ConfigPlace
place_at entry item = record { entry = entry; item = item }

abbrev pub start : ConfigPlace
start = place_at 0 0

-- a step, and what follows where it is no breach
abbrev pub then_unless_breach : {A B : Type 0} → Result A ConfigNo → (A → Result B ConfigNo)
    → Result B ConfigNo
then_unless_breach (Ok x) rest = rest x
then_unless_breach (Err why) rest = Err why

-- each of a list in order, its number at hand, which stands still at the end of its type
abbrev pub walk : {S : Type 0} → (ℕ → S → Data → Result S ConfigNo) → ℕ → S → List Data
    → Result S ConfigNo
walk step i s [] = Ok s
walk step i s (d ∷ ds) = then_unless_breach (step i s d) (λ t. walk step (next_place i) t ds)

-- each of a list in order, where its number says nothing
abbrev pub walk_each : {S : Type 0} → (S → Data → Result S ConfigNo) → S → List Data
    → Result S ConfigNo
walk_each step s [] = Ok s
walk_each step s (d ∷ ds) = then_unless_breach (step s d) (λ t. walk_each step t ds)

abbrev pub list_of_items : Items → List Data
list_of_items json.no_items = []
list_of_items (json.item d ds) = d ∷ list_of_items ds

-- the text at a member, and whether it is this one
abbrev pub text_under_key : List ℕ → Data → Option (List ℕ)
text_under_key key d = option_and_then as_str (get key d)

abbrev pub has_text : List ℕ → List ℕ → Data → Bool
has_text key text d = option_map_or (bytes_eq text) (text_under_key key d) false

abbrev pub is_mapping : Data → Bool
is_mapping d = is_some (as_object d)

-- a named list is there and isn't empty
unfoldable pub named_list : List ℕ → ConfigPlace → Data → Result (List Data) ConfigNo
named_list key place d = option_map_or
    (λ items. if length (list_of_items items) == 0 then breach rule.EmptyList place
    else Ok (list_of_items items))
    (option_and_then as_array (get key d)) (breach rule.Form place)

-- patterns

-- behind `*.`: `*` is all, nothing or a group that group
unfoldable pub star_pattern : List ℕ → Option Pattern
star_pattern group = if bytes_eq group (codes "*") then Some All
    else if is_group_name group then Some (Group group) else None

-- `*` before the first dot, or else a resource
unfoldable pub spelled_pattern : List ℕ → Option Pattern
spelled_pattern text = if list_any (λ byte. byte == 0x2E) text
    && bytes_eq (before_first (λ byte. byte == 0x2E) text) (codes "*")
    then star_pattern (resource_group text)
    else if is_resource text then Some (Exact text) else None

-- after those of its list so far, and so many in earlier entries
unfoldable pub place_pattern : ℕ → ConfigPlace → List Pattern → Pattern
    → Result (List Pattern) ConfigNo
place_pattern counted place before pattern =
    if list_any (λ earlier. same earlier pattern) before then breach rule.SamePattern place
    else if list_any (λ earlier. overlap earlier pattern) before then breach rule.Overlap place
    else if nat_lt (counted + length before) (limit_of Patterns) then Ok (before ++ pattern ∷ [])
    else over_limit Patterns

unfoldable pub pattern_step : ℕ → ℕ → ℕ → List Pattern → Data → Result (List Pattern) ConfigNo
pattern_step counted entry item before d = option_map_or
    (λ text. option_map_or (place_pattern counted (place_at entry item) before)
    (spelled_pattern text)
    (breach rule.Pattern (place_at entry item)))
    (as_str d) (breach rule.Form (place_at entry item))

-- providers

-- a provider after those of its list so far, whose prefix none of them has
unfoldable pub place_provider : ConfigPlace → List Who → Who → Result (List Who) ConfigNo
place_provider place before who =
    if list_any (λ earlier. rivals earlier who) before then breach rule.SameProvider place
    else Ok (before ++ who ∷ [])

-- the limits of keys and of plugins, with so many in earlier entries
unfoldable pub place_key : ℕ → ConfigPlace → List Who → Who → Result (List Who) ConfigNo
place_key counted place before who =
    then_unless_breach (place_provider place before who)
    (λ after. if nat_lt (counted + count_by is_key before) (limit_of Keys) then Ok after
    else over_limit Keys)

unfoldable pub place_plugin : ℕ → ConfigPlace → List Who → Who → Result (List Who) ConfigNo
place_plugin counted place before who =
    then_unless_breach (place_provider place before who)
    (λ after. if nat_lt (counted + count_by is_kms before) (limit_of Plugins) then Ok after
    else over_limit Plugins)

unfoldable pub identity_step : ConfigPlace → List Who → Data → Result (List Who) ConfigNo
identity_step place before d =
    if is_mapping d || is_some (as_null d) then place_provider place before Identity
    else breach rule.Form place

abbrev pub of_cipher : Cipher → List ℕ → List ℕ → Who
of_cipher cipher.Cbc name secret = Aescbc name secret
of_cipher cipher.Gcm name secret = Aesgcm name secret

-- a text by the name rule
unfoldable pub name_at : ConfigPlace → Data → Result (List ℕ) ConfigNo
name_at place d = option_map_or (λ name. if is_name name then Ok name else breach rule.Name place)
    (text_under_key (codes "name") d) (breach rule.Form place)

-- strict base64 of 16, 24 or 32 bytes
unfoldable pub secret_at : ConfigPlace → Data → Result (List ℕ) ConfigNo
secret_at place d = option_map_or
    (λ text. option_map_or
    (λ secret. if is_secret secret then Ok secret else breach rule.SecretLength place)
    (result_ok (decode_of standard text)) (breach rule.Base64 place))
    (text_under_key (codes "secret") d) (breach rule.Form place)

unfoldable pub key_step : Cipher → ℕ → ConfigPlace → List Who → Data → Result (List Who) ConfigNo
key_step cipher counted place before d =
    then_unless_breach (name_at place d) (λ name.
    then_unless_breach (secret_at place d) (λ secret.
    place_key counted place before (of_cipher cipher name secret)))

unfoldable pub keys_step : Cipher → ℕ → ConfigPlace → List Who → Data → Result (List Who) ConfigNo
keys_step cipher counted place before d = if is_mapping d
    then then_unless_breach (named_list (codes "keys") place d)
    (λ keys. walk_each (key_step cipher counted place) before keys)
    else breach rule.Form place

-- `v2` and no other
unfoldable pub version_at : ConfigPlace → Data → Result Bool ConfigNo
version_at place d = option_map_or
    (λ version. if has_text (codes "apiVersion") (codes "v1") d then breach rule.KmsV1 place
    else option_map_or
    (λ text. if bytes_eq (codes "v2") text then Ok true else breach rule.KmsVersion place)
    (as_str version) (breach rule.Form place))
    (get (codes "apiVersion") d) (breach rule.KmsV1 place)

unfoldable pub endpoint_at : ConfigPlace → Data → Result Bool ConfigNo
endpoint_at place d = option_map_or
    (λ text. if bytes_eq (take 7 text) (codes "unix://") then Ok true
    else breach rule.Endpoint place)
    (text_under_key (codes "endpoint") d) (breach rule.Form place)

unfoldable pub plugin_step : ℕ → ConfigPlace → List Who → Data → Result (List Who) ConfigNo
plugin_step counted place before d = if is_mapping d
    then then_unless_breach (version_at place d) (λ ok.
    then_unless_breach (name_at place d) (λ name.
    then_unless_breach (endpoint_at place d) (λ fine.
    place_plugin counted place before (Kms name))))
    else breach rule.Form place

-- how many of the five providers an element has
abbrev pub one_if : Bool → ℕ
one_if b = if b then 1 else 0

abbrev pub has : List ℕ → Data → Bool
has key d = is_some (get key d)

abbrev pub count_kinds : Data → ℕ
count_kinds d = one_if (has (codes "identity") d) + one_if (has (codes "aescbc") d)
    + one_if (has (codes "aesgcm") d) + one_if (has (codes "kms") d)
    + one_if (has (codes "secretbox") d)

-- by the one that it has
unfoldable pub kind_step : Counts → ConfigPlace → List Who → Data → Result (List Who) ConfigNo
kind_step counts place before d =
    option_map_or (identity_step place before) (get (codes "identity") d)
    (option_map_or (keys_step cipher.Cbc counts.keys place before) (get (codes "aescbc") d)
    (option_map_or (keys_step cipher.Gcm counts.keys place before) (get (codes "aesgcm") d)
    (option_map_or (plugin_step counts.plugins place before) (get (codes "kms") d)
    (breach rule.Secretbox place))))

unfoldable pub element_step : Counts → ℕ → ℕ → List Who → Data → Result (List Who) ConfigNo
element_step counts entry item before d = if is_mapping d
    then (if count_kinds d == 0 then breach rule.NoProvider (place_at entry item)
    else if nat_lt 1 (count_kinds d) then breach rule.SeveralProviders (place_at entry item)
    else kind_step counts (place_at entry item) before d)
    else breach rule.Form (place_at entry item)

-- entries

-- an entry, with so many patterns, keys and plugins in those before it
unfoldable pub config_entry : Counts → ℕ → Data → Result ConfigEntry ConfigNo
config_entry counts entry d = if is_mapping d
    then then_unless_breach (named_list (codes "resources") (place_at entry 0) d) (λ texts.
    then_unless_breach (walk (pattern_step counts.patterns entry) 0 [] texts) (λ ps.
    then_unless_breach (named_list (codes "providers") (place_at entry 0) d) (λ elements.
    then_unless_breach (walk (element_step counts entry) 0 [] elements) (λ ws.
    Ok (record { patterns = ps; providers = ws })))))
    else breach rule.Form (place_at entry 0)

abbrev pub counts_of : ℕ → ℕ → ℕ → Counts
counts_of patterns keys plugins = record { patterns = patterns; keys = keys; plugins = plugins }

abbrev pub counts_in : List ConfigEntry → Counts
counts_in rows = counts_of (patterns_in rows) (count_entry_keys rows) (kms_in rows)

unfoldable pub entry_step : ℕ → List ConfigEntry → Data → Result (List ConfigEntry) ConfigNo
entry_step entry before d = then_unless_breach (config_entry (counts_in before) entry d)
    (λ row. Ok (before ++ row ∷ []))

unfoldable pub config_in : Data → Result (List ConfigEntry) ConfigNo
config_in d = if is_mapping d
    then (if has_text (codes "apiVersion") (codes "apiserver.config.k8s.io/v1") d
    then (if has_text (codes "kind") (codes "EncryptionConfiguration") d
    then then_unless_breach (named_list (codes "resources") start d)
    (λ entries. if nat_le (length entries) (limit_of Entries) then walk entry_step 0 [] entries
    else over_limit Entries)
    else breach rule.Kind start)
    else breach rule.ApiVersion start)
    else breach rule.Form start
