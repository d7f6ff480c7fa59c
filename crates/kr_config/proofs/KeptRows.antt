-- The entries that a walk reads keep the rules.
use Rattle.std.proofs.Common.{◌≡◌, ℕ, ◌+◌, ◌≤◌, Bool, true, List, [], ◌∷◌, ◌++◌, length, Ok, refl}
use Rattle.std.proofs.Common.{subst, arith, length-append, codes}
use Rattle.std.specs.Prelude.{if◌then◌else◌, ◌&&◌, nat_le, count_by}
use Rattle.std.specs.List.{list_all, sum_by}
use Rattle.std.proofs.lemmas.List.Sums.{sum_by-append}
use Rattle.serde_json.specs.Data.{Data}
use Rattle.kr_config.specs.Providers.{is_key, is_kms}
use Rattle.kr_config.specs.declared.refusal.Counted.TheVariants.{Entries}
use Rattle.kr_config.specs.Kept.{ConfigEntry, keeps_patterns, keeps_providers, keeps_row, patterns_in}
use Rattle.kr_config.specs.Kept.{count_entry_keys, kms_in, keeps}
use Rattle.kr_base.specs.Numbering.{next_place}
use Rattle.kr_config.specs.Walk.{over_limit, place_at, start, counts_of, then_unless_breach, walk, is_mapping}
use Rattle.kr_config.specs.Walk.{has_text, named_list, pattern_step, element_step, config_entry}
use Rattle.kr_config.specs.Walk.{entry_step, config_in}
use Rattle.kr_config.proofs.Inversions.{same_ok, and_then_ok, if_ok, both, all_push}
use Rattle.kr_config.proofs.KeptPatterns.{patterns_kept}
use Rattle.kr_config.proofs.KeptProviders.{providers_kept, named_some}

le_true : (a b : ℕ) → a ≤ b → nat_le a b ≡ true
le_true a b h = grind arith

-- an entry keeps the rules, and passes no limit
pub record KeptRow (patterns keys plugins : ℕ) (row : ConfigEntry) : Type 0 where
  pub form : keeps_row row ≡ true
  pub few_patterns : patterns + length row.patterns ≤ 256
  pub few_keys : keys + count_by is_key row.providers ≤ 64
  pub few_plugins : plugins + count_by is_kms row.providers ≤ 16

pub entry_kept : (patterns keys plugins e : ℕ) (d : Data) (row : ConfigEntry) → patterns ≤ 256 → keys ≤ 64
    → plugins ≤ 16 → config_entry (counts_of patterns keys plugins) e d ≡ Ok row
    → KeptRow patterns keys plugins row
unfolding config_entry
entry_kept patterns keys plugins e d row p k m h =
    let a = if_ok (is_mapping d) _ _ row h in
    let b = and_then_ok (named_list (codes "resources") (place_at e 0) d)
    (λ texts. then_unless_breach (walk (pattern_step patterns e) 0 [] texts)
    (λ ps. then_unless_breach (named_list (codes "providers") (place_at e 0) d)
    (λ elements. then_unless_breach (walk (element_step (counts_of patterns keys plugins) e) 0 []
    elements) (λ ws. Ok (record { patterns = ps; providers = ws }))))) row a.1 in
    let c = and_then_ok (walk (pattern_step patterns e) 0 [] b.0)
    (λ ps. then_unless_breach (named_list (codes "providers") (place_at e 0) d)
    (λ elements. then_unless_breach (walk (element_step (counts_of patterns keys plugins) e) 0 []
    elements) (λ ws. Ok (record { patterns = ps; providers = ws })))) row b.2 in
    let f = and_then_ok (named_list (codes "providers") (place_at e 0) d)
    (λ elements. then_unless_breach (walk (element_step (counts_of patterns keys plugins) e) 0 []
    elements) (λ ws. Ok (record { patterns = c.0; providers = ws }))) row c.2 in
    let g = and_then_ok (walk (element_step (counts_of patterns keys plugins) e) 0 [] f.0)
    (λ ws. Ok (record { patterns = c.0; providers = ws })) row f.2 in
    let q = patterns_kept patterns e b.0 c.0 p
    (named_some (codes "resources") (place_at e 0) d b.0 b.1) c.1 in
    let w = providers_kept keys plugins patterns e f.0 g.0 k m
    (named_some (codes "providers") (place_at e 0) d f.0 f.1) g.1 in
    subst (KeptRow patterns keys plugins)
    (same_ok (record { patterns = c.0; providers = g.0 }) row g.2)
    (record {
      form = both (keeps_patterns c.0) (keeps_providers g.0)
          (search (both, q.0.forms, q.0.stand, le_true, q.1))
          (search (both, w.0.forms, w.0.stand, le_true, w.1));
      few_patterns = q.0.few;
      few_keys = w.0.few_keys;
      few_plugins = w.0.few_plugins;
    })

pub record KeptRows (rows : List ConfigEntry) : Type 0 where
  pub forms : list_all keeps_row rows ≡ true
  pub few_patterns : patterns_in rows ≤ 256
  pub few_keys : count_entry_keys rows ≤ 64
  pub few_plugins : kms_in rows ≤ 16

pub step_kept : (e : ℕ) (before : List ConfigEntry) (d : Data) (after : List ConfigEntry) → KeptRows before
    → entry_step e before d ≡ Ok after → KeptRows after × (length after ≡ length before + 1)
unfolding entry_step
step_kept e before d after k h =
    let a = and_then_ok (config_entry (counts_of (patterns_in before) (count_entry_keys before) (kms_in before))
    e d) (λ row. Ok (before ++ row ∷ [])) after h in
    let r = entry_kept (patterns_in before) (count_entry_keys before) (kms_in before) e d a.0 k.few_patterns
    k.few_keys k.few_plugins a.1 in
    let sums : (f : ConfigEntry → ℕ) → sum_by f (before ++ a.0 ∷ [])
    ≡ sum_by f before + sum_by f (a.0 ∷ []) = λ f. sum_by-append f before (a.0 ∷ []) in
    let P : List ConfigEntry → Type 0 = λ l. KeptRows l × (length l ≡ length before + 1) in
    subst P (same_ok (before ++ a.0 ∷ []) after a.2) (
      record {
        forms = all_push keeps_row before a.0 k.forms r.form;
        few_patterns = let s = sums (λ row. length row.patterns) in let t = r.few_patterns in
            omega arith;
        few_keys = let s = sums (λ row. count_by is_key row.providers) in let t = r.few_keys in
            omega arith;
        few_plugins = let s = sums (λ row. count_by is_kms row.providers) in
            let t = r.few_plugins in omega arith;
      },
      length-append before (a.0 ∷ []),
    )

-- what a walk over all entries keeps

walk_kept : (e : ℕ) (before : List ConfigEntry) (ds : List Data) (after : List ConfigEntry) → KeptRows before
    → walk entry_step e before ds ≡ Ok after
    → KeptRows after × (length after ≡ length before + length ds)
walk_kept e before [] after k h =
    let P : List ConfigEntry → Type 0 = λ l. KeptRows l × (length l ≡ length before + 0) in
    subst P (same_ok before after h) (k, omega arith)
walk_kept e before (d ∷ ds) after k h =
    let first = and_then_ok (entry_step e before d) (λ u. walk entry_step (next_place e) u ds) after
    h in
    let one = step_kept e before d first.0 k first.1 in
    let rest = walk_kept (next_place e) first.0 ds after one.0 first.2 in
    (rest.0, let a = one.1 in let b = rest.1 in grind arith)

-- the facts of all entries, as one test
all_kept : (rows : List ConfigEntry) → KeptRows rows → 1 ≤ length rows → length rows ≤ 64
    → keeps rows ≡ true
unfolding keeps
all_kept rows k least most =
    both_four (le_true 1 (length rows) least) (le_true (length rows) 64 most) k.forms
    (le_true (patterns_in rows) 256 k.few_patterns) (le_true (count_entry_keys rows) 64 k.few_keys)
    (le_true (kms_in rows) 16 k.few_plugins)
  where
    both_four : {a b c d e f : Bool} → a ≡ true → b ≡ true → c ≡ true → d ≡ true → e ≡ true
        → f ≡ true → (a && b && c && d && e && f) ≡ true
    both_four ha hb hc hd he hf = cc

low : (a b : ℕ) → nat_le a b ≡ true → a ≤ b
low a b h = grind arith

pub config_kept : (d : Data) (rows : List ConfigEntry) → config_in d ≡ Ok rows → keeps rows ≡ true
unfolding config_in
config_kept d rows h =
    let a = if_ok (is_mapping d) _ _ rows h in
    let b = if_ok (has_text (codes "apiVersion") (codes "apiserver.config.k8s.io/v1") d) _ _ rows
    a.1 in
    let c = if_ok (has_text (codes "kind") (codes "EncryptionConfiguration") d) _ _ rows b.1 in
    let f = and_then_ok (named_list (codes "resources") start d)
    (λ entries. if nat_le (length entries) 64 then walk entry_step 0 [] entries
    else over_limit Entries) rows c.1 in
    let g = if_ok (nat_le (length f.0) 64) (walk entry_step 0 [] f.0) _ rows f.2 in
    let w = walk_kept 0 [] f.0 rows
    (record {
      forms = refl;
      few_patterns = omega arith;
      few_keys = omega arith;
      few_plugins =
          omega arith;
    }) g.1 in
    whole rows f.0 w.0 w.1 (named_some (codes "resources") start d f.0 f.1)
    (low (length f.0) 64 g.0)
  where
    whole : (rows : List ConfigEntry) (ds : List Data) → KeptRows rows → length rows ≡ 0 + length ds
        → (length ds ≡ 0 → ⊥) → length ds ≤ 64 → keeps rows ≡ true
    whole rows ds k long some most = all_kept rows k (omega (arith, some)) (omega arith)
