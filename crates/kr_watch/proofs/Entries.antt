-- The entries of a map from paths to items, seen as the items in order.
use Rattle.std.proofs.Common.{◌≡◌, ℕ, Bool, true, false, not, ◌&&◌, cond, List, [], ◌∷◌, map, Option, None, Some, String, refl, sym, ap, ◌∙◌, subst}
use Rattle.std.specs.Prelude.{if◌then◌else◌, filter}
use Rattle.std.specs.List.{AllByRecursion}
use Rattle.std.specs.List.Sorted.{IsStrictlySortedBy}
use Rattle.std.specs.Map.{lookup, remove_entry}
use Rattle.std.specs.BTreeMap.{insert_entry, is_at}
use Rattle.std.specs.BTreeMap.Range.{entries_between}
use Rattle.std.specs.Ordering.{match_ordering, is_eq, is_lt}
use Rattle.std.specs.Str.{bytes_eq}
use Rattle.std.specs.String.{string_bytes, string_cmp}
use Rattle.std.specs.declared.cmp.Ordering.{Ordering}
use Rattle.std.specs.declared.cmp.Ordering.TheVariants.{Less, Equal, Greater}
use Rattle.std.specs.declared.ops.Bound.TheVariants.{Excluded, Unbounded}
use Rattle.std.proofs.lemmas.Map.Text.{is_eq-slice_cmp}
use Rattle.kr_watch.specs.declared.item.Item.{Item}
use Rattle.kr_watch.specs.Pages.{is_above}
use Rattle.kr_watch.specs.Shown.{AreInOrder, ChangesItem, item_at}
use Rattle.kr_watch.specs.inner.Keyed.{AreKept, AreKeyed, items_in}
use Rattle.kr_watch.proofs.Items.{NoneHas, nothing_there, own_item, put_over, taken_away}
use Rattle.kr_watch.proofs.Orders.{IsBelow, Rise, above_apart, equal_paths, in_order, path_cmp, same_path, to_false}

-- ---- paths

eq_turned : (own path : List ℕ) (b : Bool) → bytes_eq own path ≡ b → bytes_eq path own ≡ b
eq_turned own path true e = equal_paths path own (sym (same_path own path e))
eq_turned own path false e = to_false (bytes_eq path own) (λ t.
    let z : false ≡ true = sym e ∙ equal_paths own path (sym (same_path path own t)) in cc)

at_path : (path own : List ℕ) → is_eq (path_cmp path own) ≡ bytes_eq own path
at_path path own = is_eq-slice_cmp path own ∙ eq_turned own path (bytes_eq own path) refl

-- an item with another path stands before it
passed_by : (x item : Item) (other : List ℕ) (now was : Option Item)
    → bytes_eq x.path item.path ≡ false → now ≡ own_item (bytes_eq item.path other) item was
    → own_item (bytes_eq x.path other) x now
    ≡ own_item (bytes_eq item.path other) item (own_item (bytes_eq x.path other) x was)
passed_by x item other now was apart again = by (bytes_eq x.path other) refl
  where
    by : (b : Bool) → bytes_eq x.path other ≡ b → own_item (bytes_eq x.path other) x now
        ≡ own_item (bytes_eq item.path other) item (own_item (bytes_eq x.path other) x was)
    by true same =
        let none : bytes_eq item.path other ≡ false = to_false (bytes_eq item.path other) (λ e.
        let z : false ≡ true = sym apart ∙ equal_paths x.path item.path
        (same_path x.path other same ∙ sym (same_path item.path other e)) in cc) in
        ap (λ b. own_item b x now) same
        ∙ sym (ap (λ b. own_item b item (own_item (bytes_eq x.path other) x was)) none
        ∙ ap (λ b. own_item b x was) same)
    by false different =
        ap (λ b. own_item b x now) different ∙ again
        ∙ sym (ap (λ b. own_item (bytes_eq item.path other) item (own_item b x was)) different)

apart_from : (x : Item) (items : List Item) → AllByRecursion (IsBelow x) items
    → NoneHas x.path items
apart_from x [] a = tt
apart_from x (y ∷ items) a = (above_apart x.path y.path a.0, apart_from x items a.1)

abbrev Entry : Type 0 → Type 0
Entry Z = String Z × Item

module _ {Z : Type 0} where
  abbrev is_of_path : List ℕ → String Z → Bool
  is_of_path path = is_at (λ k. path_cmp path (string_bytes k))

  -- whether an entry has the path, by its key and by its item
  at_key : (e : Entry Z) (path : List ℕ) → string_bytes e.0 ≡ e.1.path
      → is_of_path path e.0 ≡ bytes_eq e.1.path path
  at_key e path own = ap (λ p. is_eq (path_cmp path p)) own ∙ at_path path e.1.path

  pub found : (es : List (Entry Z)) (path : List ℕ) → AreKeyed es
      → lookup (is_of_path path) es ≡ item_at (items_in es) path
  found [] path h = refl
  found (e ∷ es) path h =
      ap (λ o. cond (is_of_path path e.0) (Some e.1) o) (found es path h.1)
      ∙ ap (λ b. own_item b e.1 (item_at (items_in es) path)) (at_key e path h.0)

  -- ---- the order

  below_first : (e : Entry Z) (es : List (Entry Z)) → string_bytes e.0 ≡ e.1.path → AreKeyed es
      → AllByRecursion (λ k. string_cmp e.0 k ≡ Less) (map (λ x. x.0) es)
      → AllByRecursion (IsBelow e.1) (items_in es)
  below_first e [] own h a = tt
  below_first e (x ∷ es) own h a =
      let p = sym own in
      let q = sym h.0 in
      ((λ i. path_cmp (p i) (q i)) ∙ a.0, below_first e es own h.1 a.1)

  rise_in : (es : List (Entry Z)) → AreKeyed es
      → IsStrictlySortedBy string_cmp (map (λ e. e.0) es) → Rise (items_in es)
  unfolding IsStrictlySortedBy
  rise_in [] h s = tt
  rise_in (e ∷ es) h s = (below_first e es h.0 h.1 s.0, rise_in es h.1 s.1)

  pub items_in_order : (es : List (Entry Z)) → AreKept es → AreInOrder (items_in es)
  items_in_order es k = in_order (items_in es) (rise_in es k.keyed k.in_order)

  pub none_kept : AreKept {Z = Z} []
  unfolding IsStrictlySortedBy
  none_kept = record { keyed = tt; in_order = tt }

  -- ---- an item is put

  -- how the first entry's path and the key's stand to each other
  with_key : (e : Entry Z) (key : String Z) (item : Item) (r : Ordering)
      → string_bytes e.0 ≡ e.1.path → string_bytes key ≡ item.path → string_cmp key e.0 ≡ r
      → bytes_eq e.1.path item.path ≡ is_eq r
  with_key e key item r own is o = sym (at_key e item.path own)
      ∙ ap (λ p. is_eq (path_cmp p (string_bytes e.0))) (sym is) ∙ ap is_eq o

  pub put_changes : (es : List (Entry Z)) (key : String Z) (item : Item) → AreKeyed es
      → string_bytes key ≡ item.path
      → ChangesItem item.path (Some item) (items_in es)
      (items_in (insert_entry string_cmp es key item))
  put_changes [] key item h is other = refl
  put_changes (e ∷ es) key item h is other =
      by (string_cmp key e.0) refl (put_changes es key item h.1 is other)
    where
      by : (r : Ordering) → string_cmp key e.0 ≡ r
          → item_at (items_in (insert_entry string_cmp es key item)) other
          ≡ own_item (bytes_eq item.path other) item (item_at (items_in es) other)
          → item_at (items_in (match_ordering r ((key, item) ∷ e ∷ es) ((e.0, item) ∷ es)
          (e ∷ insert_entry string_cmp es key item))) other
          ≡ own_item (bytes_eq item.path other) item (item_at (items_in (e ∷ es)) other)
      by Less o again = refl
      by Equal o again = put_over [] e.1 item (items_in es) tt
          (same_path e.1.path item.path (with_key e key item Equal h.0 is o)) other
      by Greater o again = passed_by e.1 item other
          (item_at (items_in (insert_entry string_cmp es key item)) other)
          (item_at (items_in es) other) (with_key e key item Greater h.0 is o) again

  put_keyed : (es : List (Entry Z)) (key : String Z) (item : Item) → AreKeyed es
      → string_bytes key ≡ item.path → AreKeyed (insert_entry string_cmp es key item)
  put_keyed [] key item h is = (is, tt)
  put_keyed (e ∷ es) key item h is =
      by (string_cmp key e.0) refl (put_keyed es key item h.1 is)
    where
      by : (r : Ordering) → string_cmp key e.0 ≡ r
          → AreKeyed (insert_entry string_cmp es key item)
          → AreKeyed (match_ordering r ((key, item) ∷ e ∷ es) ((e.0, item) ∷ es)
          (e ∷ insert_entry string_cmp es key item))
      by Less o again = (is, h)
      by Equal o again = (
        h.0 ∙ same_path e.1.path item.path (with_key e key item Equal h.0 is o),
        h.1,
      )
      by Greater o again = (h.0, again)

  pub put_kept : (es new : List (Entry Z)) (key : String Z) (item : Item) → AreKept es
      → string_bytes key ≡ item.path → new ≡ insert_entry string_cmp es key item
      → IsStrictlySortedBy string_cmp (map (λ e. e.0) new) → AreKept new
  put_kept es new key item k is e s = record {
    keyed = subst AreKeyed (sym e) (put_keyed es key item k.keyed is);
    in_order = s;
  }

  -- ---- an item is taken away

  pub gone_changes : (es : List (Entry Z)) (path : List ℕ) → AreKeyed es
      → IsStrictlySortedBy string_cmp (map (λ e. e.0) es)
      → ChangesItem path None (items_in es) (items_in (remove_entry (is_of_path path) es))
  unfolding IsStrictlySortedBy
  gone_changes [] path h s other = nothing_there path [] refl other
  gone_changes (e ∷ es) path h s other =
      by (is_of_path path e.0) refl (gone_changes es path h.1 s.1 other)
    where
      at_other : (b : Bool) → bytes_eq e.1.path other ≡ b → bytes_eq e.1.path path ≡ false
          → item_at (items_in (remove_entry (is_of_path path) es)) other
          ≡ (if bytes_eq path other then None else item_at (items_in es) other)
          → own_item (bytes_eq e.1.path other) e.1
          (item_at (items_in (remove_entry (is_of_path path) es)) other)
          ≡ (if bytes_eq path other then None
          else own_item (bytes_eq e.1.path other) e.1 (item_at (items_in es) other))
      at_other true same apart again =
          let none : bytes_eq path other ≡ false = to_false (bytes_eq path other) (λ t.
          let z : false ≡ true = sym apart ∙ equal_paths e.1.path path
          (same_path e.1.path other same ∙ sym (same_path path other t)) in cc) in
          ap (λ b. own_item b e.1 (item_at (items_in (remove_entry (is_of_path path) es)) other))
          same
          ∙ sym (ap (λ b. if b then None
          else own_item (bytes_eq e.1.path other) e.1 (item_at (items_in es) other)) none
          ∙ ap (λ b. own_item b e.1 (item_at (items_in es) other)) same)
      at_other false different apart again =
          ap (λ b. own_item b e.1 (item_at (items_in (remove_entry (is_of_path path) es)) other))
          different ∙ again
          ∙ sym (ap (λ b. if bytes_eq path other then None
          else own_item b e.1 (item_at (items_in es) other)) different)

      by : (b : Bool) → is_of_path path e.0 ≡ b
          → item_at (items_in (remove_entry (is_of_path path) es)) other
          ≡ (if bytes_eq path other then None else item_at (items_in es) other)
          → item_at (items_in (cond b es (e ∷ remove_entry (is_of_path path) es))) other
          ≡ (if bytes_eq path other then None else item_at (items_in (e ∷ es)) other)
      by true o again =
          let own : e.1.path ≡ path = same_path e.1.path path (sym (at_key e path h.0) ∙ o) in
          subst (λ p. ChangesItem p None (e.1 ∷ items_in es) (items_in es)) own
          (taken_away [] e.1 (items_in es) tt
          (apart_from e.1 (items_in es) (below_first e es h.0 h.1 s.0))) other
      by false o again = at_other (bytes_eq e.1.path other) refl (sym (at_key e path h.0) ∙ o)
          again

  gone_keyed : (es : List (Entry Z)) (path : List ℕ) → AreKeyed es
      → AreKeyed (remove_entry (is_of_path path) es)
  gone_keyed [] path h = tt
  gone_keyed (e ∷ es) path h = by (is_of_path path e.0) (gone_keyed es path h.1)
    where
      by : (b : Bool) → AreKeyed (remove_entry (is_of_path path) es)
          → AreKeyed (cond b es (e ∷ remove_entry (is_of_path path) es))
      by true again = h.1
      by false again = (h.0, again)

  pub gone_kept : (es new : List (Entry Z)) (path : List ℕ) → AreKept es
      → new ≡ remove_entry (is_of_path path) es
      → IsStrictlySortedBy string_cmp (map (λ e. e.0) new) → AreKept new
  gone_kept es new path k e s = record {
    keyed = subst AreKeyed (sym e) (gone_keyed es path k.keyed);
    in_order = s;
  }

  -- ---- those above a path

  pub above_key : (es : List (Entry Z)) (key : String Z) → AreKeyed es
      → items_in (entries_between string_cmp (Excluded key) Unbounded es)
      ≡ filter (is_above (string_bytes key)) (items_in es)
  above_key [] key h = refl
  above_key (e ∷ es) key h =
      by (is_above (string_bytes key) e.1) refl
      (ap (λ p. is_lt (path_cmp (string_bytes key) p)) h.0) (above_key es key h.1)
    where
      left : List (Entry Z)
      left = entries_between string_cmp (Excluded key) Unbounded es

      right : List Item
      right = filter (is_above (string_bytes key)) (items_in es)

      by : (b : Bool) → is_above (string_bytes key) e.1 ≡ b
          → is_lt (string_cmp key e.0) ≡ is_above (string_bytes key) e.1
          → items_in left ≡ right
          → items_in (cond (is_lt (string_cmp key e.0) && not false) (e ∷ left) left)
          ≡ cond (is_above (string_bytes key) e.1) (e.1 ∷ right) right
      by true t same again =
          ap (λ c. items_in (cond (c && not false) (e ∷ left) left)) (same ∙ t)
          ∙ ap (λ l. e.1 ∷ l) again
          ∙ sym (ap (λ c. cond c (e.1 ∷ right) right) t)
      by false t same again =
          ap (λ c. items_in (cond (c && not false) (e ∷ left) left)) (same ∙ t)
          ∙ again ∙ sym (ap (λ c. cond c (e.1 ∷ right) right) t)
