-- Pages of items.
use Rattle.std.specs.Prelude.{◌≡◌, ℕ, ◌≤◌, Bool, nat_lt, if◌then◌else◌, List, [], ◌∷◌, length, take, filter, Option, None, Some, ⊤}
use Rattle.std.specs.Cmp.Lexicographic.{slice_cmp}
use Rattle.std.specs.List.{flat_map, last_or}
use Rattle.std.specs.Option.{option_map}
use Rattle.std.specs.Ordering.{nat_cmp, is_lt}
use Rattle.std.specs.Str.{bytes_eq}
use Rattle.kr_watch.specs.declared.item.Item.{Item}
use Rattle.kr_watch.specs.declared.page.Listing.{Listing}
use Rattle.kr_watch.specs.Shown.{AreInOrder}

abbrev pub has_resource : (resource : List ℕ) → Item → Bool
has_resource resource item = bytes_eq item.resource resource

abbrev pub is_above : (path : List ℕ) → Item → Bool
is_above path item = is_lt (slice_cmp nat_cmp path item.path)

-- those of a resource with a path above this one
abbrev pub items_above : List Item → (resource path : List ℕ) → List Item
items_above items resource path = filter (has_resource resource) (filter (is_above path) items)

-- the path of the last item of a page, where more items stand behind it
abbrev pub next_behind : (limit : ℕ) → List Item → Option (List ℕ)
next_behind limit items = if nat_lt limit (length items)
    then option_map (λ (item : Item). item.path) (last_or None (take limit items)) else None

-- a page has the first so many of these items
pub record IsFirstOf (limit : ℕ) (items : List Item) (page : Listing) : Type 0 where
  pub items_are : page.items.0 ≡ take limit items
  pub next_is : page.next ≡ next_behind limit items

-- a page of the items of a resource behind this path
abbrev pub IsPage : List Item → (resource after : List ℕ) → (limit : ℕ) → Listing → Type 0
IsPage items resource after limit page = IsFirstOf limit (items_above items resource after) page

-- ---- pages taken one after another

-- a page, with all items of the moment when it was taken
pub record Taken : Type 0 where
  pub items : List Item
  pub limit : ℕ
  pub page : Listing

-- each page stands behind the path that the one before it told; the last one told none
abbrev pub AreTaken : (resource : List ℕ) → (after : Option (List ℕ)) → List Taken → Type 0
AreTaken resource None [] = ⊤
AreTaken resource None (taken ∷ more) = ⊥
AreTaken resource (Some after) [] = ⊥
AreTaken resource (Some after) (taken ∷ more) =
    AreInOrder taken.items × (1 ≤ taken.limit)
    × IsPage taken.items resource after taken.limit taken.page
    × AreTaken resource taken.page.next more

-- all items that they have
abbrev pub items_taken : List Taken → List Item
items_taken pages = flat_map (λ (taken : Taken). taken.page.items.0) pages
