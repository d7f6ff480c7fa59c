-- What is shown of an opening and a history: of each live object its path, its resource, its
-- revision and its content.
use Rattle.std.specs.Prelude.{◌≡◌, ℕ, List, [], ◌∷◌, map, if◌then◌else◌, Option, None, Some}
use Rattle.std.specs.Cmp.Lexicographic.{slice_cmp}
use Rattle.std.specs.Option.{option_and_then}
use Rattle.std.specs.List.Sorted.{IsStrictlySortedBy}
use Rattle.std.specs.Ordering.{nat_cmp}
use Rattle.std.specs.Str.{bytes_eq}
use Rattle.kr_kms.specs.Opens.{Opens}
use Rattle.kr_provider.specs.Reading.{Reading, data_of, refused, unopened}
use Rattle.kr_store.specs.Rows.{live}
use Rattle.kr_store.specs.declared.rows.Row.{Row}
use Rattle.kr_rollout.specs.Histories.{state_of}
use Rattle.kr_rollout.specs.declared.opening.Entry.{Entry}
use Rattle.kr_rollout.specs.declared.opening.Opening.{Opening}
use Rattle.kr_history.specs.Contents.{ContentChange, puts, deletes, last_change, IsContent}
use Rattle.kr_watch.specs.declared.item.Item.{Item}

-- the item of a path, if there is one
abbrev pub item_at : List Item → (path : List ℕ) → Option Item
item_at [] path = None
item_at (item ∷ items) path =
    if bytes_eq item.path path then Some item else item_at items path

-- items by the bytes of their paths, each path once
abbrev pub AreInOrder : List Item → Type 0
AreInOrder items = IsStrictlySortedBy (slice_cmp nat_cmp) (map (λ item. item.path) items)

-- the data, where the content of a path is data
abbrev pub plain_in : Option Reading → Option (List ℕ)
plain_in None = None
plain_in (Some (data_of plain)) = Some plain
plain_in (Some (refused why)) = None
plain_in (Some unopened) = None

-- a path's item: that of its live row, with these data; nothing where no row is live
abbrev pub IsItemFor : (path : List ℕ) → Option Row → (plain : Option (List ℕ)) → Option Item
    → Type 0
IsItemFor path None plain item = item ≡ None
IsItemFor path (Some row) plain item = item ≡ Some (record {
  path = path;
  resource = row.resource;
  revision = row.revision;
  plain = plain;
})

-- the items of all live rows, in order, each with the content of its path
pub record IsShown (opens : Opens) (o : Opening) (history : List Entry) (items : List Item)
    : Type 0 where
  pub in_order : AreInOrder items
  pub each : (path : List ℕ) → (content : Option Reading) × IsContent opens o history path content
      × IsItemFor path (live (state_of o history).rows path) (plain_in content)
      (item_at items path)

-- ---- the same by what was there at the opening, whatever was read of it

abbrev pub plain_at : List Item → (path : List ℕ) → Option (List ℕ)
plain_at items path = option_and_then (λ (item : Item). item.plain) (item_at items path)

-- the data that were put last, or else these
abbrev pub plain_then : Option ContentChange → Option (List ℕ) → Option (List ℕ)
plain_then (Some (puts plain)) before = Some plain
plain_then (Some deletes) before = None
plain_then None before = before

-- the items of all live rows, in order, with the data that were put since, or else those of these
-- first items
pub record IsShownSince (first : List Item) (o : Opening) (history : List Entry)
    (items : List Item) : Type 0 where
  pub in_order : AreInOrder items
  pub each : (path : List ℕ) → IsItemFor path (live (state_of o history).rows path)
      (plain_then (last_change history path) (plain_at first path)) (item_at items path)

-- the items are those before, but for this path's
abbrev pub ChangesItem : (path : List ℕ) → Option Item → (old new : List Item) → Type 0
ChangesItem path item old new = (other : List ℕ)
    → item_at new other ≡ (if bytes_eq path other then item else item_at old other)
