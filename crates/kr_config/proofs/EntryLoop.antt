-- A loop that reads the entries of a configuration.
use Rattle.std.proofs.Common.{◌≡◌, ℕ, ◌+◌, ◌<◌, ◌≤◌, List, [], ◌∷◌, ◌++◌, length, get_or, drop, map}
use Rattle.std.proofs.Common.{Ok, Err, refl, sym, ◌∙◌, ap, subst, arith}
use Rattle.std.specs.Prelude.{count_by}
use Rattle.std.specs.List.{sum_by}
use Rattle.std.proofs.lemmas.List.Sums.{sum_by-append}
use Rattle.serde_json.specs.Data.{Data}
use Rattle.serde_json.specs.View.{view}
use Rattle.serde_json.specs.declared.value.Value.{Value}
use Rattle.kr_config.specs.declared.settings.Entry.{Entry}
use Rattle.kr_config.specs.declared.refusal.ConfigNo.{ConfigNo}
use Rattle.kr_config.specs.Providers.{is_key, is_kms}
use Rattle.kr_config.specs.Kept.{ConfigEntry, entry_lists, rows_of, patterns_in, count_entry_keys, kms_in}
use Rattle.kr_base.specs.Numbering.{next_place}
use Rattle.kr_config.specs.Walk.{then_unless_breach, counts_in, counts_of, walk, config_entry, entry_step}
use Rattle.kr_config.proofs.KeptRows.{KeptRow, KeptRows, entry_kept, step_kept}
use Rattle.kr_config.proofs.Trees.{walk_more, walk_stops, walk_ends}

pub record Reading (values : List Value) (i e : ℕ) (entries : List Entry)
    (patterns keys plugins : ℕ) : Type 0 where
  pub walked : walk entry_step 0 [] (map view values)
      ≡ walk entry_step e (rows_of entries) (map view (drop i values))
  pub patterns_met : patterns ≡ patterns_in (rows_of entries)
  pub keys_met : keys ≡ count_entry_keys (rows_of entries)
  pub plugins_met : plugins ≡ kms_in (rows_of entries)
  pub kept : KeptRows (rows_of entries)

pub reading_begins : (values : List Value) → Reading values 0 0 [] 0 0 0
reading_begins values = record {
  walked = refl;
  patterns_met = refl;
  keys_met = refl;
  plugins_met = refl;
  kept =
      record {
        forms = refl;
        few_patterns = omega arith;
        few_keys = omega arith;
        few_plugins =
            omega arith;
      };
}

rows_push : (entries : List Entry) (entry : Entry)
    → rows_of (entries ++ entry ∷ []) ≡ rows_of entries ++ entry_lists entry ∷ []
rows_push [] entry = refl
rows_push (x ∷ entries) entry = ap (λ l. entry_lists x ∷ l) (rows_push entries entry)

-- the numbers that the loop keeps are those of the entries so far
counts_kept : (values : List Value) (i e : ℕ) (entries : List Entry) (p k m : ℕ)
    → Reading values i e entries p k m → counts_in (rows_of entries) ≡ counts_of p k m
counts_kept values i e entries p k m r =
    ap (λ n. counts_of n (count_entry_keys (rows_of entries)) (kms_in (rows_of entries)))
    (sym r.patterns_met)
    ∙ ap (λ n. counts_of p n (kms_in (rows_of entries))) (sym r.keys_met)
    ∙ ap (λ n. counts_of p k n) (sym r.plugins_met)

-- the step of the walk, with the numbers that the loop keeps
step_goes : (values : List Value) (i e : ℕ) (entries : List Entry) (p k m : ℕ) (d : Data)
    (row : ConfigEntry)
    → Reading values i e entries p k m → config_entry (counts_of p k m) e d ≡ Ok row
    → entry_step e (rows_of entries) d ≡ Ok (rows_of entries ++ row ∷ [])
unfolding entry_step
step_goes values i e entries p k m d row r h =
    ap (λ o. then_unless_breach o (λ x. Ok (rows_of entries ++ x ∷ [])))
    (ap (λ counts. config_entry counts e d) (counts_kept values i e entries p k m r) ∙ h)

step_refuses : (values : List Value) (i e : ℕ) (entries : List Entry) (p k m : ℕ) (d : Data)
    (why : ConfigNo) → Reading values i e entries p k m → config_entry (counts_of p k m) e d ≡ Err why
    → entry_step e (rows_of entries) d ≡ Err why
unfolding entry_step
step_refuses values i e entries p k m d why r h =
    ap (λ o. then_unless_breach o (λ x. Ok (rows_of entries ++ x ∷ [])))
    (ap (λ counts. config_entry counts e d) (counts_kept values i e entries p k m r) ∙ h)

pub reading_more : (values : List Value) (i e : ℕ) (entries : List Entry) (p k m : ℕ) (v : Value)
    (entry : Entry) (q l n : ℕ) → Reading values i e entries p k m → i < length values
    → v ≡ get_or values i v
    → config_entry (counts_of p k m) e (view v) ≡ Ok (entry_lists entry) → q ≡ p + length entry.patterns.0
    → l ≡ k + count_by is_key entry.providers.0 → n ≡ m + count_by is_kms entry.providers.0
    → Reading values (i + 1) (next_place e) (entries ++ entry ∷ []) q l n
reading_more values i e entries p k m v entry q l n r h is ok eq el en =
    let push = rows_push entries entry in
    let step = step_goes values i e entries p k m (view v) (entry_lists entry) r ok in
    let sums : (f : ConfigEntry → ℕ) → sum_by f (rows_of entries ++ entry_lists entry ∷ [])
    ≡ sum_by f (rows_of entries) + sum_by f (entry_lists entry ∷ []) =
    λ f. sum_by-append f (rows_of entries) (entry_lists entry ∷ []) in
    record {
      walked = r.walked ∙ walk_more entry_step e (rows_of entries)
          (rows_of entries ++ entry_lists entry ∷ []) values i v h is step
          ∙ ap (λ rows. walk entry_step (next_place e) rows (map view (drop (i + 1) values)))
          (sym push);
      patterns_met = (let s = sums (λ row. length row.patterns) in let t = r.patterns_met in
          omega arith) ∙ ap patterns_in (sym push);
      keys_met = (let s = sums (λ row. count_by is_key row.providers) in let t = r.keys_met in
          omega arith) ∙ ap count_entry_keys (sym push);
      plugins_met = (let s = sums (λ row. count_by is_kms row.providers) in let t = r.plugins_met in
          omega arith) ∙ ap kms_in (sym push);
      kept = subst KeptRows (sym push)
          (step_kept e (rows_of entries) (view v) (rows_of entries ++ entry_lists entry ∷ []) r.kept
          step).0;
    }

pub reading_stops : (values : List Value) (i e : ℕ) (entries : List Entry) (p k m : ℕ) (v : Value)
    (why : ConfigNo) → Reading values i e entries p k m → i < length values → v ≡ get_or values i v
    → config_entry (counts_of p k m) e (view v) ≡ Err why
    → walk entry_step 0 [] (map view values) ≡ Err why
reading_stops values i e entries p k m v why r h is err =
    r.walked ∙ walk_stops entry_step e (rows_of entries) why values i v h is
    (step_refuses values i e entries p k m (view v) why r err)

pub reading_ends : (values : List Value) (i e : ℕ) (entries : List Entry) (p k m : ℕ)
    → Reading values i e entries p k m → length values ≤ i
    → walk entry_step 0 [] (map view values) ≡ Ok (rows_of entries)
reading_ends values i e entries p k m r h =
    r.walked ∙ walk_ends entry_step e (rows_of entries) values i h

entry_bounds : (values : List Value) (i e : ℕ) (entries : List Entry) (p k m : ℕ) (d : Data)
    (entry : Entry) → Reading values i e entries p k m
    → config_entry (counts_of p k m) e d ≡ Ok (entry_lists entry) → KeptRow p k m (entry_lists entry)
entry_bounds values i e entries p k m d entry r ok =
    entry_kept p k m e d (entry_lists entry)
    (subst (λ n. n ≤ 256) (sym r.patterns_met) r.kept.few_patterns)
    (subst (λ n. n ≤ 64) (sym r.keys_met) r.kept.few_keys)
    (subst (λ n. n ≤ 16) (sym r.plugins_met) r.kept.few_plugins) ok

pub few_patterns : (values : List Value) (i e : ℕ) (entries : List Entry) (p k m : ℕ) (d : Data)
    (entry : Entry) → Reading values i e entries p k m
    → config_entry (counts_of p k m) e d ≡ Ok (entry_lists entry) → p + length entry.patterns.0 ≤ 256
few_patterns values i e entries p k m d entry r ok =
    (entry_bounds values i e entries p k m d entry r ok).few_patterns

pub few_keys : (values : List Value) (i e : ℕ) (entries : List Entry) (p k m : ℕ) (d : Data)
    (entry : Entry) → Reading values i e entries p k m
    → config_entry (counts_of p k m) e d ≡ Ok (entry_lists entry)
    → k + count_by is_key entry.providers.0 ≤ 64
few_keys values i e entries p k m d entry r ok =
    (entry_bounds values i e entries p k m d entry r ok).few_keys

pub few_plugins : (values : List Value) (i e : ℕ) (entries : List Entry) (p k m : ℕ) (d : Data)
    (entry : Entry) → Reading values i e entries p k m
    → config_entry (counts_of p k m) e d ≡ Ok (entry_lists entry)
    → m + count_by is_kms entry.providers.0 ≤ 16
few_plugins values i e entries p k m d entry r ok =
    (entry_bounds values i e entries p k m d entry r ok).few_plugins
