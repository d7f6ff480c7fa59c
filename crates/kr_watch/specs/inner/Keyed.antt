-- A map from paths to their items.
use Rattle.std.specs.Prelude.{◌≡◌, List, String, map}
use Rattle.std.specs.List.{AllByRecursion}
use Rattle.std.specs.List.Sorted.{IsStrictlySortedBy}
use Rattle.std.specs.String.{string_bytes, string_cmp}
use Rattle.kr_watch.specs.declared.item.Item.{Item}

module _ {Z : Type 0} where
  -- the items, in the order of their paths
  abbrev pub items_in : List (String Z × Item) → List Item
  items_in entries = map (λ e. e.1) entries

  -- each item stands at its own path
  abbrev pub AreKeyed : List (String Z × Item) → Type 0
  AreKeyed entries = AllByRecursion (λ e. string_bytes e.0 ≡ e.1.path) entries

  pub record AreKept (entries : List (String Z × Item)) : Type 0 where
    pub keyed : AreKeyed entries
    pub in_order : IsStrictlySortedBy string_cmp (map (λ e. e.0) entries)
