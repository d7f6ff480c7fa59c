-- Paths as the keys of a map whose numbers say nothing.
use Rattle.std.proofs.Common.{◌≡◌, ℕ, suc, Bool, true, false, List, [], ◌∷◌, length, refl, ap}
use Rattle.std.specs.Prelude.{cond}
use Rattle.std.specs.Ordering.{match_ordering, is_eq}
use Rattle.std.specs.declared.cmp.Ordering.{Ordering}
use Rattle.std.specs.declared.cmp.Ordering.TheVariants.{Less, Equal, Greater}
use Rattle.std.specs.Map.{keys_of, remove_entry}
use Rattle.std.specs.Set.{remove_key}
use Rattle.std.specs.BTreeMap.{insert_entry, is_at}
use Rattle.std.specs.BTreeSet.{insert_key}
use Rattle.kr_config.specs.Nexts.{name_cmp}

abbrev Entries : Type 0
Entries = List (List ℕ × ℕ)

pub key_put : (es : Entries) (path : List ℕ) (n : ℕ) → keys_of (insert_entry name_cmp es path n) ≡ insert_key name_cmp (keys_of es) path
key_put [] path n = refl
key_put (e ∷ es) path n = by (name_cmp path e.0) (key_put es path n)
  where
    by : (r : Ordering) → keys_of (insert_entry name_cmp es path n) ≡ insert_key name_cmp (keys_of es) path
        → keys_of (match_ordering r ((path, n) ∷ e ∷ es) ((e.0, n) ∷ es) (e ∷ insert_entry name_cmp es path n)) ≡ match_ordering r (path ∷ e.0 ∷ keys_of es) (e.0 ∷ keys_of es) (e.0 ∷ insert_key name_cmp (keys_of es) path)
    by Less rest = refl
    by Equal rest = refl
    by Greater rest = ap (λ l. e.0 ∷ l) rest

pub key_gone : (es : Entries) (path : List ℕ) → keys_of (remove_entry (is_at (name_cmp path)) es) ≡ remove_key (is_at (name_cmp path)) (keys_of es)
key_gone [] path = refl
key_gone (e ∷ es) path = by (is_eq (name_cmp path e.0)) (key_gone es path)
  where
    by : (v : Bool) → keys_of (remove_entry (is_at (name_cmp path)) es) ≡ remove_key (is_at (name_cmp path)) (keys_of es)
        → keys_of (cond v es (e ∷ remove_entry (is_at (name_cmp path)) es)) ≡ cond v (keys_of es) (e.0 ∷ remove_key (is_at (name_cmp path)) (keys_of es))
    by true rest = refl
    by false rest = ap (λ l. e.0 ∷ l) rest

pub keys_length : (es : Entries) → length (keys_of es) ≡ length es
keys_length [] = refl
keys_length (e ∷ es) = ap suc (keys_length es)
