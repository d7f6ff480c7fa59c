-- The text of settings means these settings.
use Rattle.std.proofs.Common.{◌≡◌, ℕ, ◌+◌, ◌<◌, ◌≤◌, Bool, true, false, List, [], ◌∷◌, ◌++◌, length, get_or, map, All, Contains, Some, None, Ok, cond, refl, sym, ap, subst, ◌∙◌, arith, codes, count_by, length-append}
use Rattle.std.specs.Prelude.{◌&&◌, ◌||◌, ◌==◌, not, nat_lt, nat_le, if◌then◌else◌, option_and_then}
use Rattle.std.specs.List.{before_first, list_all, list_any, sum_by, take_while}
use Rattle.std.specs.Option.{option_map_or}
use Rattle.std.specs.Result.{result_ok}
use Rattle.std.specs.Str.{bytes_eq, IsUtf8}
use Rattle.std.proofs.lemmas.Bool.{false≢true, leb-true, lt-ltb, ne_eqb}
use Rattle.std.proofs.lemmas.Bool.Decides.{nat_tests}
use Rattle.std.proofs.lemmas.List.{get_or_past, length-map}
use Rattle.std.proofs.lemmas.List.Elements.{All-contains, All-get_or, Contains-append_right}
use Rattle.std.proofs.lemmas.List.Sums.{sum_by-append, sum_by-cons, take_while-cons}
use Rattle.std.proofs.lemmas.Slice.Eq.{bytes_eq-Decides}
use Rattle.std.proofs.lemmas.Str.{is_utf8-from_IsUtf8}
use Rattle.base64.specs.Engines.{standard}
use Rattle.base64.specs.GeneralPurpose.{IsBytes, decode_of, encode_of}
use Rattle.base64.proofs.EngineFacts.{decode_of-encode_of}
use Rattle.serde_json.specs.Data.{Data, array, object, no_members, depth, items_depth}
use Rattle.serde_json.specs.Find.{get, as_array}
use Rattle.serde_json.specs.Read.{read, max_depth}
use Rattle.serde_json.specs.View.{items_of}
use Rattle.serde_json.specs.Written.{compact_text, has_float, items_have_float}
use Rattle.kr_base.specs.Limits.{name_limit}
use Rattle.kr_base.specs.Rules.{is_name, is_label, is_label_byte, is_resource, first_part, later_parts}
use Rattle.kr_config.specs.declared.pattern.Pattern.{Pattern}
use Rattle.kr_config.specs.declared.pattern.Pattern.TheVariants.{Exact, Group, All as Every}
use Rattle.kr_config.specs.declared.place.ConfigPlace.{ConfigPlace}
use Rattle.kr_config.specs.declared.provider.Cipher.{Cipher}
use Rattle.kr_config.specs.declared.provider.Cipher.TheVariants as cipher
use Rattle.kr_config.specs.declared.refusal.Counted.{Counted}
use Rattle.kr_config.specs.declared.refusal.Counted.TheVariants.{Entries, Patterns, Keys, Plugins}
use Rattle.kr_config.specs.declared.refusal.Rule.TheVariants as rule
use Rattle.kr_config.specs.declared.who.Who.{Who}
use Rattle.kr_config.specs.declared.who.Who.TheVariants.{Identity, Aescbc, Aesgcm, Kms}
use Rattle.kr_config.specs.Kept.{ConfigEntry, apart, keeps, keeps_patterns, keeps_providers, keeps_row, patterns_in, count_entry_keys, kms_in}
use Rattle.kr_config.specs.Meanings.{begins_json, json_rows, MeansConfig, MeansBy, TextMeans}
use Rattle.kr_config.specs.Patterns.{clash, resource_group, is_group_name, is_pattern, overlap, same}
use Rattle.kr_config.specs.Providers.{is_key, is_kms, is_provider, is_secret, rivals}
use Rattle.kr_config.specs.Walk.{breach, over_limit, place_at, start, counts_in, counts_of, then_unless_breach, walk, walk_each, list_of_items, named_list, spelled_pattern, star_pattern, place_pattern, pattern_step, place_provider, place_key, place_plugin, identity_step, of_cipher, name_at, secret_at, key_step, keys_step, version_at, endpoint_at, plugin_step, kind_step, element_step, config_entry, entry_step, config_in}
use Rattle.kr_config.proofs.Inversions.{left, right}
use Rattle.kr_config.proofs.ListParts.{here}
use Rattle.kr_config.specs.Texts.{pattern_text, pattern_data, key_data, keys_data, plugin_data, element_data, entry_data, settings_data, settings_text}
use Rattle.kr_config.specs.inner.Written.{IsOfBytes, AreOfBytes}
use Rattle.kr_config.proofs.KeptLists.{kept_of}
use Rattle.kr_config.proofs.Middle.{middle_all, middle_apart, any_one, any_other, walk_back}

-- ---- lists

items_back : (ds : List Data) → list_of_items (items_of ds) ≡ ds
items_back [] = refl
items_back (d ∷ ds) = ap (λ l. d ∷ l) (items_back ds)

named : (key : List ℕ) (place : ConfigPlace) (d : Data) (ds : List Data)
    → get key d ≡ Some (array (items_of ds)) → (length ds ≡ 0 → ⊥)
    → named_list key place d ≡ Ok ds
unfolding named_list
named key place d ds h some =
    ap (λ o. option_map_or (λ items. if length (list_of_items items) == 0
    then breach rule.EmptyList place else Ok (list_of_items items)) (option_and_then as_array o)
    (breach rule.Form place)) h
    ∙ ap (λ l. if length l == 0 then breach rule.EmptyList place else Ok l) (items_back ds)
    ∙ ap (λ b. if b then breach rule.EmptyList place else Ok ds) (ne_eqb (length ds) 0 some)

-- ---- patterns

abbrev is_dot : ℕ → Bool
is_dot byte = byte == 0x2E

not_star : (text : List ℕ) → is_resource text ≡ true
    → bytes_eq (before_first is_dot text) (codes "*") ≡ false
not_star [] h = refl
not_star (b ∷ bs) h =
    ap (λ l. bytes_eq l (codes "*")) (take_while-cons (λ x. not (is_dot x)) b bs)
    ∙ by (is_dot b) (left (is_label (first_part (b ∷ bs))) (list_all is_label (later_parts (b ∷ bs)))
    (right (nat_le (length (b ∷ bs)) name_limit)
    (is_label (first_part (b ∷ bs)) && list_all is_label (later_parts (b ∷ bs))) h))
  where
    by : (v : Bool) → is_label (if v then [] else b ∷ first_part bs) ≡ true
        → bytes_eq (cond (not v) (b ∷ take_while (λ x. not (is_dot x)) bs) []) (codes "*") ≡ false
    by true k = refl
    by false k =
        let label : is_label_byte b ≡ true =
        left (is_label_byte b) (list_all is_label_byte (first_part bs))
        (right (nat_le 1 (length (b ∷ first_part bs)))
        (is_label_byte b && list_all is_label_byte (first_part bs)) k) in
        ap (λ v. v && bytes_eq (take_while (λ x. not (is_dot x)) bs) [])
        (ne_eqb b 42 (λ e. false≢true (subst (λ n. is_label_byte n ≡ true) e label)))

and_false : (v : Bool) → (v && false) ≡ false
and_false true = refl
and_false false = refl

exact_back : (text : List ℕ) → is_resource text ≡ true → spelled_pattern text ≡ Some (Exact text)
unfolding spelled_pattern
exact_back text h =
    ap (λ v. if list_any is_dot text && v then star_pattern (resource_group text)
    else if is_resource text then Some (Exact text) else None) (not_star text h)
    ∙ ap (λ v. if v then star_pattern (resource_group text)
    else if is_resource text then Some (Exact text) else None) (and_false (list_any is_dot text))
    ∙ ap (λ v. if v then Some (Exact text) else None) h

not_every : (group : List ℕ) → is_group_name group ≡ true → bytes_eq group (codes "*") ≡ false
not_every group h = by (bytes_eq group (codes "*")) refl
  where
    by : (v : Bool) → bytes_eq group (codes "*") ≡ v → bytes_eq group (codes "*") ≡ false
    by true e = absurd (false≢true (subst (λ g. is_group_name g ≡ true)
        ((bytes_eq-Decides group (codes "*")).0 e) h))
    by false e = e

group_back : (group : List ℕ) → is_group_name group ≡ true
    → spelled_pattern (codes "*." ++ group) ≡ Some (Group group)
unfolding spelled_pattern star_pattern
group_back group h =
    ap (λ v. if v then Some Every else if is_group_name group then Some (Group group) else None)
    (not_every group h)
    ∙ ap (λ v. if v then Some (Group group) else None) h

pattern_back : (q : Pattern) → is_pattern q ≡ true → spelled_pattern (pattern_text q) ≡ Some q
unfolding spelled_pattern star_pattern
pattern_back (Exact text) h = exact_back text h
pattern_back (Group group) h = group_back group h
pattern_back Every h = refl

placed : (counted : ℕ) (place : ConfigPlace) (front : List Pattern) (q : Pattern)
    → list_any (λ x. clash x q) front ≡ false → counted + length front < 256
    → place_pattern counted place front q ≡ Ok (front ++ q ∷ [])
unfolding place_pattern
placed counted place front q apart_is room =
    ap (λ b. if b then breach rule.SamePattern place
    else if list_any (λ x. overlap x q) front then breach rule.Overlap place
    else if nat_lt (counted + length front) 256 then Ok (front ++ q ∷ []) else over_limit Patterns)
    (any_one (λ x. same x q) (λ x. overlap x q) front apart_is)
    ∙ ap (λ b. if b then breach rule.Overlap place
    else if nat_lt (counted + length front) 256 then Ok (front ++ q ∷ []) else over_limit Patterns)
    (any_other (λ x. same x q) (λ x. overlap x q) front apart_is)
    ∙ ap (λ b. if b then Ok (front ++ q ∷ []) else over_limit Patterns)
    (lt-ltb (counted + length front) 256 room)

pattern_goes : (counted entry j : ℕ) (front : List Pattern) (q : Pattern)
    → is_pattern q ≡ true → list_any (λ x. clash x q) front ≡ false → counted + length front < 256
    → pattern_step counted entry j front (pattern_data q) ≡ Ok (front ++ q ∷ [])
unfolding pattern_step
pattern_goes counted entry j front q form apart_is room =
    ap (λ o. option_map_or (place_pattern counted (place_at entry j) front) o
    (breach rule.Pattern (place_at entry j))) (pattern_back q form)
    ∙ placed counted (place_at entry j) front q apart_is room

patterns_back : (counted entry : ℕ) (ps : List Pattern) → keeps_patterns ps ≡ true
    → counted + length ps ≤ 256
    → walk (pattern_step counted entry) 0 [] (map pattern_data ps) ≡ Ok ps
patterns_back counted entry ps h few =
    walk_back (pattern_step counted entry) pattern_data ps [] ps 0
    (λ j front q behind e.
    let long = length-append front (q ∷ behind) in
    let same_long = ap length e in
    pattern_goes counted entry j front q
    (middle_all is_pattern front q behind (subst (λ l. list_all is_pattern l ≡ true) (sym e)
    (right (nat_le 1 (length ps)) (list_all is_pattern ps)
    (left (nat_le 1 (length ps) && list_all is_pattern ps) (apart clash ps) h))))
    (middle_apart clash front q behind (subst (λ l. apart clash l ≡ true) (sym e)
    (right (nat_le 1 (length ps) && list_all is_pattern ps) (apart clash ps) h)))
    (omega (arith, long, same_long, few))) refl

-- ---- providers

provider_placed : (place : ConfigPlace) (front : List Who) (who : Who)
    → list_any (λ x. rivals x who) front ≡ false
    → place_provider place front who ≡ Ok (front ++ who ∷ [])
unfolding place_provider
provider_placed place front who none =
    ap (λ b. if b then breach rule.SameProvider place else Ok (front ++ who ∷ [])) none

-- one that is counted, where its limit isn't met
placed_within : (kind : Counted) (n limit : ℕ) (place : ConfigPlace) (front : List Who) (who : Who)
    → list_any (λ x. rivals x who) front ≡ false → n < limit
    → then_unless_breach (place_provider place front who)
    (λ new. if nat_lt n limit then Ok new else over_limit kind) ≡ Ok (front ++ who ∷ [])
placed_within kind n limit place front who none room =
    ap (λ r. then_unless_breach r (λ new. if nat_lt n limit then Ok new else over_limit kind))
    (provider_placed place front who none)
    ∙ ap (λ b. if b then Ok (front ++ who ∷ []) else over_limit kind) (lt-ltb n limit room)

name_back : (place : ConfigPlace) (d : Data) (name : List ℕ)
    → name_at place d ≡ (if is_name name then Ok name else breach rule.Name place)
    → is_name name ≡ true → name_at place d ≡ Ok name
name_back place d name read h = read ∙ ap (λ b. if b then Ok name else breach rule.Name place) h

as_bytes : (bytes : List ℕ) → All (λ byte. byte < 256) bytes → IsBytes bytes
as_bytes bytes h i = by (nat_lt i (length bytes)) refl
  where
    by : (q : Bool) → nat_lt i (length bytes) ≡ q → get_or bytes i 0 < 256
    by true t = All-get_or (λ byte. byte < 256) bytes i 0 (grind (arith, nat_tests)) h
    by false f = subst (λ v. v < 256) (sym (get_or_past bytes i 0 (grind (arith, nat_tests))))
        (omega arith)

secret_back : (place : ConfigPlace) (name secret : List ℕ) → is_secret secret ≡ true
    → All (λ byte. byte < 256) secret → secret_at place (key_data name secret) ≡ Ok secret
unfolding secret_at
secret_back place name secret h bytes =
    ap (λ r. option_map_or (λ s. if is_secret s then Ok s else breach rule.SecretLength place)
    (result_ok r) (breach rule.Base64 place))
    (decode_of-encode_of standard secret refl (as_bytes secret bytes))
    ∙ ap (λ b. if b then Ok secret else breach rule.SecretLength place) h

key_back : (c : Cipher) (counted : ℕ) (place : ConfigPlace) (front : List Who) (name secret : List ℕ)
    → is_name name ≡ true → is_secret secret ≡ true → All (λ byte. byte < 256) secret
    → list_any (λ x. rivals x (of_cipher c name secret)) front ≡ false
    → counted + count_by is_key front < 64
    → key_step c counted place front (key_data name secret)
    ≡ Ok (front ++ of_cipher c name secret ∷ [])
unfolding key_step place_key name_at
key_back c counted place front name secret n s bytes none room =
    ap (λ r. then_unless_breach r (λ own. then_unless_breach (secret_at place (key_data name secret))
    (λ key. place_key counted place front (of_cipher c own key))))
    (name_back place (key_data name secret) name refl n)
    ∙ ap (λ r. then_unless_breach r (λ key. place_key counted place front (of_cipher c name key)))
    (secret_back place name secret s bytes)
    ∙ placed_within Keys (counted + count_by is_key front) 64 place front (of_cipher c name secret)
    none room

keys_back : (c : Cipher) (counted : ℕ) (place : ConfigPlace) (front : List Who) (name secret : List ℕ)
    → is_name name ≡ true → is_secret secret ≡ true → All (λ byte. byte < 256) secret
    → list_any (λ x. rivals x (of_cipher c name secret)) front ≡ false
    → counted + count_by is_key front < 64
    → keys_step c counted place front (keys_data name secret)
    ≡ Ok (front ++ of_cipher c name secret ∷ [])
unfolding keys_step
keys_back c counted place front name secret n s bytes none room =
    ap (λ r. then_unless_breach r (λ keys. walk_each (key_step c counted place) front keys))
    (named (codes "keys") place (keys_data name secret) (key_data name secret ∷ []) refl
    (λ e. omega (arith, e)))
    ∙ ap (λ r. then_unless_breach r (λ done. Ok done))
    (key_back c counted place front name secret n s bytes none room)

plugin_back : (counted : ℕ) (place : ConfigPlace) (front : List Who) (name : List ℕ)
    → is_name name ≡ true → list_any (λ x. rivals x (Kms name)) front ≡ false
    → counted + count_by is_kms front < 16
    → plugin_step counted place front (plugin_data name) ≡ Ok (front ++ Kms name ∷ [])
unfolding plugin_step version_at endpoint_at place_plugin name_at
plugin_back counted place front name n none room =
    ap (λ r. then_unless_breach r (λ own. then_unless_breach (endpoint_at place (plugin_data name))
    (λ fine. place_plugin counted place front (Kms own))))
    (name_back place (plugin_data name) name refl n)
    ∙ placed_within Plugins (counted + count_by is_kms front) 16 place front (Kms name) none room

identity_back : (place : ConfigPlace) (front : List Who) → list_any (λ x. rivals x Identity) front ≡ false
    → identity_step place front (object no_members) ≡ Ok (front ++ Identity ∷ [])
unfolding identity_step
identity_back place front none = provider_placed place front Identity none

element_goes : (p k m entry j : ℕ) (front : List Who) (who : Who) → is_provider who ≡ true
    → IsOfBytes who → list_any (λ x. rivals x who) front ≡ false
    → (is_key who ≡ true → k + count_by is_key front < 64)
    → (is_kms who ≡ true → m + count_by is_kms front < 16)
    → element_step (counts_of p k m) entry j front (element_data who) ≡ Ok (front ++ who ∷ [])
unfolding element_step kind_step
element_goes p k m entry j front Identity form bytes none keys plugins =
    identity_back (place_at entry j) front none
element_goes p k m entry j front (Aescbc name secret) form bytes none keys plugins =
    keys_back cipher.Cbc k (place_at entry j) front name secret
    (left (is_name name) (is_secret secret) form) (right (is_name name) (is_secret secret) form)
    bytes none (keys refl)
element_goes p k m entry j front (Aesgcm name secret) form bytes none keys plugins =
    keys_back cipher.Gcm k (place_at entry j) front name secret
    (left (is_name name) (is_secret secret) form) (right (is_name name) (is_secret secret) form)
    bytes none (keys refl)
element_goes p k m entry j front (Kms name) form bytes none keys plugins =
    plugin_back m (place_at entry j) front name form none (plugins refl)

abbrev once : Bool → ℕ
once v = cond v 1 0

-- there is room for one that is counted
room_for : (test : Who → Bool) (counted limit : ℕ) (all front : List Who) (who : Who)
    (behind : List Who) → front ++ who ∷ behind ≡ all → counted + count_by test all ≤ limit
    → test who ≡ true → counted + count_by test front < limit
room_for test counted limit all front who behind e few own =
    let same_all : count_by test (front ++ who ∷ behind) ≡ count_by test all =
    ap (count_by test) e in
    let a = sum_by-append (λ x. cond (test x) 1 0) front (who ∷ behind) in
    let b = sum_by-cons (λ x. cond (test x) 1 0) who behind in
    let one : once (test who) ≡ once true = ap once own in
    omega (arith, same_all, a, b, one, few)

middle_of : {T : Type 0} (front : List T) (x : T) (behind : List T)
    → Contains (front ++ x ∷ behind) x
middle_of front x behind = Contains-append_right front (x ∷ behind) x (here x behind)

providers_back : (p k m entry : ℕ) (ws : List Who) → keeps_providers ws ≡ true → All IsOfBytes ws
    → k + count_by is_key ws ≤ 64 → m + count_by is_kms ws ≤ 16
    → walk (element_step (counts_of p k m) entry) 0 [] (map element_data ws) ≡ Ok ws
providers_back p k m entry ws h bytes keys plugins =
    walk_back (element_step (counts_of p k m) entry) element_data ws [] ws 0
    (λ j front who behind e.
    element_goes p k m entry j front who
    (middle_all is_provider front who behind (subst (λ l. list_all is_provider l ≡ true) (sym e)
    (right (nat_le 1 (length ws)) (list_all is_provider ws)
    (left (nat_le 1 (length ws) && list_all is_provider ws) (apart rivals ws) h))))
    (All-contains IsOfBytes ws who bytes
    (subst (λ l. Contains l who) e (middle_of front who behind)))
    (middle_apart rivals front who behind (subst (λ l. apart rivals l ≡ true) (sym e)
    (right (nat_le 1 (length ws) && list_all is_provider ws) (apart rivals ws) h)))
    (room_for is_key k 64 ws front who behind e keys)
    (room_for is_kms m 16 ws front who behind e plugins)) refl

-- ---- entries

some_of : {T : Type 0} (write : T → Data) (xs : List T) → nat_le 1 (length xs) ≡ true
    → length (map write xs) ≡ 0 → ⊥
some_of write xs h e =
    let long = length-map xs write in omega (arith, leb-true 1 (length xs) h, long, e)

entry_back : (p k m e : ℕ) (row : ConfigEntry) → keeps_row row ≡ true → All IsOfBytes row.providers
    → p + length row.patterns ≤ 256 → k + count_by is_key row.providers ≤ 64
    → m + count_by is_kms row.providers ≤ 16
    → config_entry (counts_of p k m) e (entry_data row) ≡ Ok row
unfolding config_entry
entry_back p k m e row h bytes patterns keys plugins =
    let d : Data = entry_data row in
    let ps : List Pattern = row.patterns in
    let ws : List Who = row.providers in
    let kept_ps : keeps_patterns ps ≡ true = left (keeps_patterns ps) (keeps_providers ws) h in
    let kept_ws : keeps_providers ws ≡ true = right (keeps_patterns ps) (keeps_providers ws) h in
    let some_ps = left (nat_le 1 (length ps)) (list_all is_pattern ps)
    (left (nat_le 1 (length ps) && list_all is_pattern ps) (apart clash ps) kept_ps) in
    let some_ws = left (nat_le 1 (length ws)) (list_all is_provider ws)
    (left (nat_le 1 (length ws) && list_all is_provider ws) (apart rivals ws) kept_ws) in
    ap (λ r. then_unless_breach r (λ texts. then_unless_breach (walk (pattern_step p e) 0 [] texts) (λ own.
    then_unless_breach (named_list (codes "providers") (place_at e 0) d) (λ elements.
    then_unless_breach (walk (element_step (counts_of p k m) e) 0 [] elements) (λ found.
    Ok (record { patterns = own; providers = found }))))))
    (named (codes "resources") (place_at e 0) d (map pattern_data ps) refl
    (some_of pattern_data ps some_ps))
    ∙ ap (λ r. then_unless_breach r (λ own.
    then_unless_breach (named_list (codes "providers") (place_at e 0) d) (λ elements.
    then_unless_breach (walk (element_step (counts_of p k m) e) 0 [] elements) (λ found.
    Ok (record { patterns = own; providers = found }))))) (patterns_back p e ps kept_ps patterns)
    ∙ ap (λ r. then_unless_breach r (λ elements.
    then_unless_breach (walk (element_step (counts_of p k m) e) 0 [] elements) (λ found.
    Ok (record { patterns = ps; providers = found }))))
    (named (codes "providers") (place_at e 0) d (map element_data ws) refl
    (some_of element_data ws some_ws))
    ∙ ap (λ r. then_unless_breach r (λ found. Ok (record { patterns = ps; providers = found })))
    (providers_back p k m e ws kept_ws bytes keys plugins)

entry_goes : (e : ℕ) (front : List ConfigEntry) (row : ConfigEntry) → keeps_row row ≡ true
    → All IsOfBytes row.providers → patterns_in front + length row.patterns ≤ 256
    → count_entry_keys front + count_by is_key row.providers ≤ 64
    → kms_in front + count_by is_kms row.providers ≤ 16
    → entry_step e front (entry_data row) ≡ Ok (front ++ row ∷ [])
unfolding entry_step
entry_goes e front row h bytes patterns keys plugins =
    ap (λ r. then_unless_breach r (λ own. Ok (front ++ own ∷ [])))
    (entry_back (patterns_in front) (count_entry_keys front) (kms_in front) e row h bytes patterns keys
    plugins)

-- the sums over all entries
sum_within : (amount : ConfigEntry → ℕ) (limit : ℕ) (all front : List ConfigEntry) (row : ConfigEntry) (behind : List ConfigEntry)
    → front ++ row ∷ behind ≡ all → sum_by amount all ≤ limit
    → sum_by amount front + amount row ≤ limit
sum_within amount limit all front row behind e few =
    let same_all : sum_by amount (front ++ row ∷ behind) ≡ sum_by amount all =
    ap (sum_by amount) e in
    let a = sum_by-append amount front (row ∷ behind) in
    let b = sum_by-cons amount row behind in omega (arith, same_all, a, b, few)

rows_back : (rows : List ConfigEntry) → keeps rows ≡ true → AreOfBytes rows
    → walk entry_step 0 [] (map entry_data rows) ≡ Ok rows
rows_back rows h bytes =
    let kept = kept_of rows h in
    walk_back entry_step entry_data rows [] rows 0 (λ j front row behind e.
    entry_goes j front row
    (middle_all keeps_row front row behind
    (subst (λ l. list_all keeps_row l ≡ true) (sym e) kept.each))
    (All-contains (λ r. All IsOfBytes r.providers) rows row bytes
    (subst (λ l. Contains l row) e (middle_of front row behind)))
    (sum_within (λ r. length r.patterns) 256 rows front row behind e
    (leb-true (patterns_in rows) 256 kept.patterns))
    (sum_within (λ r. count_by is_key r.providers) 64 rows front row behind e
    (leb-true (count_entry_keys rows) 64 kept.keys))
    (sum_within (λ r. count_by is_kms r.providers) 16 rows front row behind e
    (leb-true (kms_in rows) 16 kept.plugins))) refl

config_back : (rows : List ConfigEntry) → keeps rows ≡ true → AreOfBytes rows
    → config_in (settings_data rows) ≡ Ok rows
unfolding config_in
config_back rows h bytes =
    let kept = kept_of rows h in
    let entries : List Data = map entry_data rows in
    let long : length entries ≡ length rows = length-map rows entry_data in
    ap (λ r. then_unless_breach r (λ own. if nat_le (length own) 64 then walk entry_step 0 [] own
    else over_limit Entries))
    (named (codes "resources") start (settings_data rows) entries refl
    (some_of entry_data rows kept.some))
    ∙ ap (λ b. if b then walk entry_step 0 [] entries else over_limit Entries)
    (ap (λ n. nat_le n 64) long ∙ kept.few)
    ∙ rows_back rows h bytes

-- ---- the text

pub means_back : (text : List ℕ) (rows : List ConfigEntry) → keeps rows ≡ true → AreOfBytes rows
    → IsUtf8 text → text ≡ settings_text rows → read text ≡ Some (settings_data rows)
    → MeansConfig text (Ok rows)
unfolding json_rows
means_back text rows h bytes utf8 is is_read =
    let begins : begins_json text ≡ true = ap begins_json is in
    subst (λ b. MeansBy b text (Ok rows)) (sym (is_utf8-from_IsUtf8 text utf8))
    (subst (λ b. TextMeans b text (Ok rows)) (sym begins)
    (ap (λ o. option_map_or config_in o (breach rule.Json start)) is_read
    ∙ config_back rows h bytes))

-- ---- it nests little, and has no floats

items_deep : {T : Type 0} (write : T → Data) (most : ℕ) (xs : List T)
    → ((x : T) → depth (write x) ≤ most) → items_depth (items_of (map write xs)) ≤ most
items_deep write most [] h = omega arith
items_deep write most (x ∷ xs) h = omega (arith, h x, items_deep write most xs h)

element_deep : (who : Who) → depth (element_data who) ≤ 4
element_deep Identity = omega arith
element_deep other = omega arith

entry_deep : (row : ConfigEntry) → depth (entry_data row) ≤ 6
entry_deep row = omega (
  arith,
  items_deep element_data 4 row.providers element_deep,
  items_deep pattern_data 0 row.patterns (λ q. omega arith),
)

pub settings_deep : (rows : List ConfigEntry) → depth (settings_data rows) ≤ max_depth
settings_deep rows = omega (arith, items_deep entry_data 6 rows entry_deep)

items_whole : {T : Type 0} (write : T → Data) (xs : List T)
    → ((x : T) → has_float (write x) ≡ false) → items_have_float (items_of (map write xs)) ≡ false
items_whole write [] h = refl
items_whole write (x ∷ xs) h =
    ap (λ v. v || items_have_float (items_of (map write xs))) (h x) ∙ items_whole write xs h

element_whole : (who : Who) → has_float (element_data who) ≡ false
element_whole Identity = refl
element_whole other = refl

entry_whole : (row : ConfigEntry) → has_float (entry_data row) ≡ false
entry_whole row =
    ap (λ v. v || (items_have_float (items_of (map pattern_data row.patterns)) || false))
    (items_whole element_data row.providers element_whole)
    ∙ ap (λ v. v || false) (items_whole pattern_data row.patterns (λ q. refl))

pub settings_whole : (rows : List ConfigEntry) → has_float (settings_data rows) ≡ false
settings_whole rows = ap (λ v. v || false) (items_whole entry_data rows entry_whole)

-- ---- what a writer of such data gives

pub text_is : (rows : List ConfigEntry) (d : Data) (text : List ℕ) → d ≡ settings_data rows
    → (has_float d ≡ false → text ≡ compact_text d) → text ≡ settings_text rows
text_is rows d text is written =
    written (ap has_float is ∙ settings_whole rows) ∙ ap compact_text is

pub text_means : (rows : List ConfigEntry) (d : Data) (text : List ℕ) → keeps rows ≡ true
    → AreOfBytes rows → d ≡ settings_data rows → IsUtf8 text
    → (has_float d ≡ false → text ≡ compact_text d)
    → (depth d ≤ max_depth → read text ≡ Some d) → MeansConfig text (Ok rows)
text_means rows d text h bytes is utf8 written reads =
    means_back text rows h bytes utf8 (text_is rows d text is written)
    (reads (subst (λ x. depth x ≤ max_depth) (sym is) (settings_deep rows))
    ∙ ap (λ x. Some x) is)
