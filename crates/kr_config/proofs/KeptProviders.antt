-- The providers that a walk reads keep the rules.
use Rattle.std.proofs.Common.{◌≡◌, ℕ, ◌+◌, ◌<◌, ◌≤◌, Bool, true, false, List, [], ◌∷◌, ◌++◌, length}
use Rattle.std.proofs.Common.{Some, None, Ok, refl, ◌∙◌, ap, subst, Option, arith, length-append}
use Rattle.std.proofs.Common.{codes, zero-add}
use Rattle.std.specs.Prelude.{if◌then◌else◌, ◌||◌, ◌==◌, nat_lt, count_by, is_some, option_and_then}
use Rattle.std.specs.List.{list_all, list_any}
use Rattle.std.specs.Option.{option_map_or}
use Rattle.std.specs.Result.{result_ok}
use Rattle.std.proofs.lemmas.Bool.{ltb-true}
use Rattle.std.proofs.lemmas.List.Sums.{sum_by-append}
use Rattle.serde_json.specs.Data.{Data}
use Rattle.serde_json.specs.Find.{get, as_null, as_array}
use Rattle.base64.specs.Engines.{standard}
use Rattle.base64.specs.GeneralPurpose.{decode_of}
use Rattle.kr_base.specs.Rules.{is_name}
use Rattle.kr_config.specs.declared.who.Who.{Who}
use Rattle.kr_config.specs.declared.refusal.Rule.TheVariants as rule
use Rattle.kr_config.specs.declared.refusal.Counted.{Counted}
use Rattle.kr_config.specs.declared.refusal.Counted.TheVariants.{Keys, Plugins}
use Rattle.kr_config.specs.declared.place.ConfigPlace.{ConfigPlace}
use Rattle.kr_config.specs.declared.who.Who.TheVariants.{Identity, Kms}
use Rattle.kr_config.specs.declared.provider.Cipher.{Cipher}
use Rattle.kr_config.specs.declared.provider.Cipher.TheVariants as cipher
use Rattle.kr_config.specs.Providers.{is_secret, is_provider, is_key, is_kms, rivals}
use Rattle.kr_config.specs.Kept.{apart}
use Rattle.kr_base.specs.Numbering.{next_place}
use Rattle.kr_config.specs.Walk.{breach, over_limit, place_at, counts_of, then_unless_breach, walk, walk_each}
use Rattle.kr_config.specs.Walk.{is_mapping, text_under_key, list_of_items, named_list, place_provider}
use Rattle.kr_config.specs.Walk.{place_key, place_plugin, identity_step, of_cipher, name_at}
use Rattle.kr_config.specs.Walk.{secret_at, key_step, keys_step, version_at, endpoint_at}
use Rattle.kr_config.specs.Walk.{plugin_step, count_kinds, kind_step, element_step}
use Rattle.kr_config.proofs.Inversions.{same_ok, and_then_ok, if_ok, if_not, some_ok, none_any}
use Rattle.kr_config.proofs.Inversions.{all_push, apart_push, walk_keeps, each_keeps, both}

pub record Providers (keys plugins : ℕ) (ws : List Who) : Type 0 where
  pub forms : list_all is_provider ws ≡ true
  pub stand : apart rivals ws ≡ true
  pub few_keys : keys + count_by is_key ws ≤ 64
  pub few_plugins : plugins + count_by is_kms ws ≤ 16

-- one more of a list counts as one
count_push : (p : Who → Bool) (ws : List Who) (who : Who)
    → count_by p (ws ++ who ∷ []) ≡ count_by p ws + (if p who then 1 else 0)
count_push p ws who = sum_by-append (λ w. if p w then 1 else 0) ws (who ∷ [])
    ∙ ap (λ n. count_by p ws + n) (zero-add (if p who then 1 else 0))

-- a list that isn't empty
abbrev Kept : ℕ → ℕ → List Who → Type 0
Kept keys plugins ws = Providers keys plugins ws × (1 ≤ length ws)

push_keeps : (keys plugins : ℕ) (before : List Who) (who : Who) → Providers keys plugins before
    → is_provider who ≡ true → list_any (λ w. rivals w who) before ≡ false
    → (is_key who ≡ true → keys + count_by is_key before < 64)
    → (is_kms who ≡ true → plugins + count_by is_kms before < 16)
    → Kept keys plugins (before ++ who ∷ [])
push_keeps keys plugins before who k f r key kms =
    let one = who ∷ [] in
    let long : length (before ++ one) ≡ length before + 1 = length-append before one in (
      record {
        forms = all_push is_provider before who k.forms f;
        stand = apart_push rivals before who k.stand (none_any (λ w. rivals w who) before r);
        few_keys = within (is_key who) keys (count_by is_key before) _ 64 k.few_keys key
            (count_push is_key before who);
        few_plugins = within (is_kms who) plugins (count_by is_kms before) _ 16 k.few_plugins kms
            (count_push is_kms before who);
      },
      omega (arith, long),
    )
  where
    within : (b : Bool) (met n m limit : ℕ) → met + n ≤ limit → (b ≡ true → met + n < limit)
        → m ≡ n + (if b then 1 else 0) → met + m ≤ limit
    within true met n m limit h less is = let l = less refl in omega arith
    within false met n m limit h less is = omega arith

place_fits : (place : ConfigPlace) (before : List Who) (who : Who) (after : List Who)
    → place_provider place before who ≡ Ok after
    → (list_any (λ w. rivals w who) before ≡ false) × (before ++ who ∷ [] ≡ after)
unfolding place_provider
place_fits place before who after h =
    let a = if_not (list_any (λ w. rivals w who) before) _ _ after h in
    (a.0, same_ok (before ++ who ∷ []) after a.1)

-- one that is counted is placed below its limit
placed_below : (kind : Counted) (n limit : ℕ) (place : ConfigPlace) (before : List Who) (who : Who)
    (after : List Who)
    → then_unless_breach (place_provider place before who)
    (λ new. if nat_lt n limit then Ok new else over_limit kind) ≡ Ok after
    → (n < limit) × (list_any (λ w. rivals w who) before ≡ false) × (before ++ who ∷ [] ≡ after)
placed_below kind n limit place before who after h =
    let a = and_then_ok (place_provider place before who)
    (λ new. if nat_lt n limit then Ok new else over_limit kind) after h in
    let b = if_ok (nat_lt n limit) (Ok a.0) _ after a.2 in
    let p = place_fits place before who a.0 a.1 in
    (ltb-true n limit b.0, p.0, p.1 ∙ same_ok a.0 after b.1)

key_placed : (keys plugins : ℕ) (place : ConfigPlace) (before : List Who) (who : Who) (after : List Who)
    → Providers keys plugins before → is_provider who ≡ true → is_kms who ≡ false
    → place_key keys place before who ≡ Ok after → Kept keys plugins after
unfolding place_key
key_placed keys plugins place before who after k f n h =
    let p = placed_below Keys (keys + count_by is_key before) 64 place before who after h in
    subst (Kept keys plugins) p.2
    (push_keeps keys plugins before who k f p.1 (λ t. p.0) (λ t. absurd (cc)))

plugin_placed : (keys plugins : ℕ) (place : ConfigPlace) (before : List Who) (who : Who)
    (after : List Who) → Providers keys plugins before → is_provider who ≡ true → is_key who ≡ false
    → place_plugin plugins place before who ≡ Ok after → Kept keys plugins after
unfolding place_plugin
plugin_placed keys plugins place before who after k f n h =
    let p = placed_below Plugins (plugins + count_by is_kms before) 16 place before who after h in
    subst (Kept keys plugins) p.2
    (push_keeps keys plugins before who k f p.1 (λ t. absurd (cc)) (λ t. p.0))

identity_kept : (keys plugins : ℕ) (place : ConfigPlace) (before : List Who) (d : Data) (after : List Who)
    → Providers keys plugins before → identity_step place before d ≡ Ok after
    → Kept keys plugins after
unfolding identity_step
identity_kept keys plugins place before d after k h =
    let a = if_ok (is_mapping d || is_some (as_null d)) (place_provider place before Identity) _
    after h in
    let p = place_fits place before Identity after a.1 in
    subst (Kept keys plugins) p.1
    (push_keeps keys plugins before Identity k refl p.0 (λ t. absurd (cc)) (λ t. absurd (cc)))

name_fits : (place : ConfigPlace) (d : Data) (name : List ℕ) → name_at place d ≡ Ok name
    → is_name name ≡ true
unfolding name_at
name_fits place d name h =
    let a = some_ok (text_under_key (codes "name") d)
    (λ n. if is_name n then Ok n else breach rule.Name place) _ name h in
    let b = if_ok (is_name a.0) (Ok a.0) _ name a.2 in
    subst (λ n. is_name n ≡ true) (same_ok a.0 name b.1) b.0

secret_fits : (place : ConfigPlace) (d : Data) (secret : List ℕ) → secret_at place d ≡ Ok secret
    → is_secret secret ≡ true
unfolding secret_at
secret_fits place d secret h =
    let a = some_ok (text_under_key (codes "secret") d)
    (λ text. option_map_or (λ s. if is_secret s then Ok s else breach rule.SecretLength place)
    (result_ok (decode_of standard text)) (breach rule.Base64 place)) _ secret h in
    let b = some_ok (result_ok (decode_of standard a.0))
    (λ s. if is_secret s then Ok s else breach rule.SecretLength place) _ secret a.2 in
    let c = if_ok (is_secret b.0) (Ok b.0) _ secret b.2 in
    subst (λ s. is_secret s ≡ true) (same_ok b.0 secret c.1) c.0

cipher_form : (c : Cipher) (name secret : List ℕ) → is_name name ≡ true → is_secret secret ≡ true
    → is_provider (of_cipher c name secret) ≡ true
cipher_form cipher.Cbc name secret n s = both (is_name name) (is_secret secret) n s
cipher_form cipher.Gcm name secret n s = both (is_name name) (is_secret secret) n s

cipher_no_plugin : (c : Cipher) (name secret : List ℕ) → is_kms (of_cipher c name secret) ≡ false
cipher_no_plugin cipher.Cbc name secret = refl
cipher_no_plugin cipher.Gcm name secret = refl

key_kept : (keys plugins : ℕ) (c : Cipher) (place : ConfigPlace) (before : List Who) (d : Data)
    (after : List Who) → Providers keys plugins before → key_step c keys place before d ≡ Ok after
    → Kept keys plugins after
unfolding key_step
key_kept keys plugins c place before d after k h =
    let a = and_then_ok (name_at place d)
    (λ name. then_unless_breach (secret_at place d)
    (λ secret. place_key keys place before (of_cipher c name secret))) after h in
    let b = and_then_ok (secret_at place d)
    (λ secret. place_key keys place before (of_cipher c a.0 secret)) after a.2 in
    key_placed keys plugins place before (of_cipher c a.0 b.0) after k
    (cipher_form c a.0 b.0 (name_fits place d a.0 a.1) (secret_fits place d b.0 b.1))
    (cipher_no_plugin c a.0 b.0) b.2

pub named_some : (key : List ℕ) (place : ConfigPlace) (d : Data) (ds : List Data)
    → named_list key place d ≡ Ok ds → length ds ≡ 0 → ⊥
unfolding named_list
named_some key place d ds h z =
    let a = some_ok (option_and_then as_array (get key d))
    (λ items. if length (list_of_items items) == 0 then breach rule.EmptyList place
    else Ok (list_of_items items)) _ ds h in
    let b = if_not (length (list_of_items a.0) == 0) _ _ ds a.2 in
    let same = same_ok (list_of_items a.0) ds b.1 in
    let zero_long : length (list_of_items a.0) ≡ 0 = ap length same ∙ z in
    let test = b.0 in grind (arith, zero_long, test)

keys_each : (keys plugins : ℕ) (c : Cipher) (place : ConfigPlace) (before : List Who) (ds : List Data)
    (after : List Who) → Providers keys plugins before → (length ds ≡ 0 → ⊥)
    → walk_each (key_step c keys place) before ds ≡ Ok after → Kept keys plugins after
keys_each keys plugins c place before [] after k some h = absurd (some refl)
keys_each keys plugins c place before (d ∷ ds) after k some h =
    let first = and_then_ok (key_step c keys place before d)
    (λ u. walk_each (key_step c keys place) u ds) after h in
    each_keeps (key_step c keys place) (Kept keys plugins)
    (λ s x t p q. key_kept keys plugins c place s x t p.0 q) first.0 ds after
    (key_kept keys plugins c place before d first.0 k first.1) first.2

keys_kept : (keys plugins : ℕ) (c : Cipher) (place : ConfigPlace) (before : List Who) (d : Data)
    (after : List Who) → Providers keys plugins before → keys_step c keys place before d ≡ Ok after
    → Kept keys plugins after
unfolding keys_step
keys_kept keys plugins c place before d after k h =
    let a = if_ok (is_mapping d) _ _ after h in
    let b = and_then_ok (named_list (codes "keys") place d)
    (λ ks. walk_each (key_step c keys place) before ks) after a.1 in
    keys_each keys plugins c place before b.0 after k (named_some (codes "keys") place d b.0 b.1)
    b.2

plugin_kept : (keys plugins : ℕ) (place : ConfigPlace) (before : List Who) (d : Data) (after : List Who)
    → Providers keys plugins before → plugin_step plugins place before d ≡ Ok after
    → Kept keys plugins after
unfolding plugin_step
plugin_kept keys plugins place before d after k h =
    let a = if_ok (is_mapping d) _ _ after h in
    let b = and_then_ok (version_at place d)
    (λ ok. then_unless_breach (name_at place d)
    (λ name. then_unless_breach (endpoint_at place d)
    (λ fine. place_plugin plugins place before (Kms name)))) after a.1 in
    let c = and_then_ok (name_at place d)
    (λ name. then_unless_breach (endpoint_at place d)
    (λ fine. place_plugin plugins place before (Kms name))) after b.2 in
    let f = and_then_ok (endpoint_at place d) (λ fine. place_plugin plugins place before (Kms c.0))
    after c.2 in
    plugin_placed keys plugins place before (Kms c.0) after k (name_fits place d c.0 c.1) refl f.2

kind_by : (keys plugins : ℕ) (place : ConfigPlace) (before after : List Who) (a b c d : Option Data)
    → Providers keys plugins before
    → option_map_or (identity_step place before) a
    (option_map_or (keys_step cipher.Cbc keys place before) b
    (option_map_or (keys_step cipher.Gcm keys place before) c
    (option_map_or (plugin_step plugins place before) d (breach rule.Secretbox place))))
    ≡ Ok after
    → Kept keys plugins after
kind_by keys plugins place before after (Some x) b c d k h =
    identity_kept keys plugins place before x after k h
kind_by keys plugins place before after None (Some x) c d k h =
    keys_kept keys plugins cipher.Cbc place before x after k h
kind_by keys plugins place before after None None (Some x) d k h =
    keys_kept keys plugins cipher.Gcm place before x after k h
kind_by keys plugins place before after None None None (Some x) k h =
    plugin_kept keys plugins place before x after k h
kind_by keys plugins place before after None None None None k h = absurd (cc)

pub element_kept : (keys plugins patterns entry item : ℕ) (before : List Who) (d : Data)
    (after : List Who) → Providers keys plugins before
    → element_step (counts_of patterns keys plugins) entry item before d ≡ Ok after
    → Kept keys plugins after
unfolding element_step kind_step
element_kept keys plugins patterns entry item before d after k h =
    let a = if_ok (is_mapping d) _ _ after h in
    let b = if_not (count_kinds d == 0) _ _ after a.1 in
    let c = if_not (nat_lt 1 (count_kinds d)) _ _ after b.1 in
    kind_by keys plugins (place_at entry item) before after (get (codes "identity") d)
    (get (codes "aescbc") d) (get (codes "aesgcm") d) (get (codes "kms") d) k c.1

pub providers_kept : (keys plugins patterns entry : ℕ) (ds : List Data) (after : List Who)
    → keys ≤ 64 → plugins ≤ 16 → (length ds ≡ 0 → ⊥)
    → walk (element_step (counts_of patterns keys plugins) entry) 0 [] ds ≡ Ok after
    → Kept keys plugins after
providers_kept keys plugins patterns entry [] after m n some h = absurd (some refl)
providers_kept keys plugins patterns entry (d ∷ ds) after m n some h =
    let step = element_step (counts_of patterns keys plugins) entry in
    let first = and_then_ok (step 0 [] d) (λ u. walk step (next_place 0) u ds) after h in
    walk_keeps step (Kept keys plugins)
    (λ i s x t p q. element_kept keys plugins patterns entry i s x t p.0 q) (next_place 0)
    first.0 ds after
    (element_kept keys plugins patterns entry 0 [] d first.0
    (record { forms = refl; stand = refl; few_keys = omega arith; few_plugins = omega arith })
    first.1) first.2
