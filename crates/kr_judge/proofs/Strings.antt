-- Maps of owned texts as lists of their bytes.
use Rattle.std.proofs.Common.{◌≡◌, ℕ, Bool, true, false, List, [], ◌∷◌, Option, None, Some, map, refl, sym, ap, subst, ◌∙◌}
use Rattle.std.specs.Prelude.{cond, IsSome}
use Rattle.std.specs.Ordering.{match_ordering, is_eq}
use Rattle.std.specs.declared.cmp.Ordering.{Ordering}
use Rattle.std.specs.declared.cmp.Ordering.TheVariants.{Less, Equal, Greater}
use Rattle.std.proofs.Common.{String}
use Rattle.std.specs.String.{string_bytes, string_cmp}
use Rattle.std.specs.Option.{option_map}
use Rattle.std.specs.Map.{lookup, remove_entry}
use Rattle.std.specs.BTreeMap.{insert_entry, is_at}
use Rattle.kr_config.specs.Nexts.{name_cmp}
use Rattle.kr_judge.specs.inner.Places.{Groups, group_at, all_or_none, places_at}

-- lists at texts
module _ {Z V : Type 0} where
  abbrev pub groups_of : (V → List ℕ) → List (String Z × V) → Groups
  groups_of f es = map (λ e. (string_bytes e.0, f e.1)) es

  put_in : (es : List (String Z × V)) (f : V → List ℕ) (key : String Z) (value : V) → groups_of f (insert_entry string_cmp es key value) ≡ insert_entry name_cmp (groups_of f es) (string_bytes key) (f value)
  put_in [] f key value = refl
  put_in (e ∷ es) f key value = by (string_cmp key e.0) (put_in es f key value)
    where
      by : (r : Ordering) → groups_of f (insert_entry string_cmp es key value) ≡ insert_entry name_cmp (groups_of f es) (string_bytes key) (f value)
          → groups_of f (match_ordering r ((key, value) ∷ e ∷ es) ((e.0, value) ∷ es) (e ∷ insert_entry string_cmp es key value))
          ≡ match_ordering r ((string_bytes key, f value) ∷ (string_bytes e.0, f e.1) ∷ groups_of f es) ((string_bytes e.0, f value) ∷ groups_of f es) ((string_bytes e.0, f e.1) ∷ insert_entry name_cmp (groups_of f es) (string_bytes key) (f value))
      by Less rest = refl
      by Equal rest = refl
      by Greater rest = ap (λ l. (string_bytes e.0, f e.1) ∷ l) rest

  gone_in : (es : List (String Z × V)) (f : V → List ℕ) (name : List ℕ) → groups_of f (remove_entry (is_at (λ k. name_cmp name (string_bytes k))) es) ≡ remove_entry (is_at (name_cmp name)) (groups_of f es)
  gone_in [] f name = refl
  gone_in (e ∷ es) f name = by (is_eq (name_cmp name (string_bytes e.0))) (gone_in es f name)
    where
      by : (v : Bool) → groups_of f (remove_entry (is_at (λ k. name_cmp name (string_bytes k))) es) ≡ remove_entry (is_at (name_cmp name)) (groups_of f es)
          → groups_of f (cond v es (e ∷ remove_entry (is_at (λ k. name_cmp name (string_bytes k))) es)) ≡ cond v (groups_of f es) ((string_bytes e.0, f e.1) ∷ remove_entry (is_at (name_cmp name)) (groups_of f es))
      by true rest = refl
      by false rest = ap (λ l. (string_bytes e.0, f e.1) ∷ l) rest

  found_in : (es : List (String Z × V)) (f : V → List ℕ) (name : List ℕ) → option_map f (lookup (is_at (λ k. name_cmp name (string_bytes k))) es) ≡ group_at (groups_of f es) name
  found_in [] f name = refl
  found_in (e ∷ es) f name = by (is_eq (name_cmp name (string_bytes e.0))) (found_in es f name)
    where
      by : (v : Bool) → option_map f (lookup (is_at (λ k. name_cmp name (string_bytes k))) es) ≡ group_at (groups_of f es) name
          → option_map f (cond v (Some e.1) (lookup (is_at (λ k. name_cmp name (string_bytes k))) es)) ≡ cond v (Some (f e.1)) (group_at (groups_of f es) name)
      by true rest = refl
      by false rest = rest

  -- as calls leave them
  pub places_found : (es : List (String Z × V)) (f : V → List ℕ) (name : List ℕ) (shown : Groups) (value : Option V) → value ≡ lookup (is_at (λ k. name_cmp name (string_bytes k))) es → groups_of f es ≡ shown
      → all_or_none (option_map f value) ≡ places_at shown name
  places_found es f name shown value found view = ap all_or_none (ap (option_map f) found ∙ found_in es f name ∙ ap (λ l. group_at l name) view)

  pub groups_put : (es new : List (String Z × V)) (f : V → List ℕ) (key : String Z) (value : V) (name : List ℕ) (shown : Groups) → new ≡ insert_entry string_cmp es key value → string_bytes key ≡ name → groups_of f es ≡ shown
      → groups_of f new ≡ insert_entry name_cmp shown name (f value)
  groups_put es new f key value name shown put is view = ap (groups_of f) put ∙ put_in es f key value ∙ ap (λ l. insert_entry name_cmp l (string_bytes key) (f value)) view ∙ ap (λ n. insert_entry name_cmp shown n (f value)) is

  pub groups_gone : (es new : List (String Z × V)) (f : V → List ℕ) (name : List ℕ) (shown : Groups) → new ≡ remove_entry (is_at (λ k. name_cmp name (string_bytes k))) es → groups_of f es ≡ shown
      → groups_of f new ≡ remove_entry (is_at (name_cmp name)) shown
  groups_gone es new f name shown gone view = ap (groups_of f) gone ∙ gone_in es f name ∙ ap (remove_entry (is_at (name_cmp name))) view

  pub group_none : (es : List (String Z × V)) (f : V → List ℕ) (name : List ℕ) → lookup (is_at (λ k. name_cmp name (string_bytes k))) es ≡ None → group_at (groups_of f es) name ≡ None
  group_none es f name none = sym (found_in es f name) ∙ ap (option_map f) none

  pub group_absent : (es : List (String Z × V)) (f : V → List ℕ) (key : String Z) (name : List ℕ) (shown : Groups) → lookup (is_at (string_cmp key)) es ≡ None → string_bytes key ≡ name → groups_of f es ≡ shown → IsSome (group_at shown name) → ⊥
  group_absent es f key name shown none is view some =
      let absent : group_at shown name ≡ None = ap (λ l. group_at l name) (sym view) ∙ sym (found_in es f name) ∙ ap (λ n. option_map f (lookup (is_at (λ k. name_cmp n (string_bytes k))) es)) (sym is) ∙ ap (option_map f) none in
      let no_one : IsSome {T = List ℕ} None = subst IsSome absent some in cc
