-- What `watch` prints: the objects of a resource in pages, or the changes since a revision.
use Rattle.std.specs.Prelude.{◌≡◌, ℕ, List, [], ◌++◌, length, codes, decimal, All, Option, None, Some}
use Rattle.std.specs.List.{flat_map}
use Rattle.kr_script.specs.Output.{data_text, three, two}
use Rattle.kr_watch.specs.Pages.{AreTaken, Taken}
use Rattle.kr_watch.specs.declared.change.ObjectChange.{ObjectChange}
use Rattle.kr_watch.specs.declared.change.What.{What}
use Rattle.kr_watch.specs.declared.change.What.TheVariants as kind
use Rattle.kr_watch.specs.declared.item.Item.{Item}

abbrev pub line : List ℕ → List ℕ
line text = text ++ codes "\n"

abbrev pub end_line : List ℕ
end_line = line (codes "end")

-- ---- pages

-- data in base64, `-` where there are none, and `?` for what isn't data
abbrev pub plain_text : Option (List ℕ) → List ℕ
plain_text None = codes "?"
plain_text (Some plain) = data_text plain

abbrev pub item_line : Item → List ℕ
item_line item = line (three (decimal item.revision) item.path (plain_text item.plain))

-- how many objects the page has, and a line for each
abbrev pub page_text : List Item → List ℕ
page_text items = line (two (codes "page") (decimal (length items))) ++ flat_map item_line items

abbrev pub pages_text : List Taken → List ℕ
pages_text pages = flat_map (λ (taken : Taken). page_text taken.page.items.0) pages

-- of these items those of a resource, in pages of so many that were taken one after another
pub record ShowsPages (resource : List ℕ) (limit : ℕ) (items : List Item) (text : List ℕ)
    : Type 0 where
  pub pages : List Taken
  pub taken : AreTaken resource (Some []) pages
  pub each : All (λ (taken : Taken). (taken.items ≡ items) × (taken.limit ≡ limit)) pages
  pub text_is : text ≡ pages_text pages ++ end_line

-- ---- changes

abbrev pub change_kind_text : What → List ℕ
change_kind_text kind.Put = codes "put"
change_kind_text kind.Delete = codes "delete"
change_kind_text kind.Replace = codes "replace"

abbrev pub change_line : ObjectChange → List ℕ
change_line change = line (two (codes "change")
    (three (decimal change.revision) (change_kind_text change.what) change.path))

abbrev pub changes_text : List ObjectChange → List ℕ
changes_text changes = flat_map change_line changes ++ end_line

-- a revision of which a change may be gone, with the oldest one whose changes are kept; and one
-- that there isn't yet, with the newest
abbrev pub gone_text : (oldest : ℕ) → List ℕ
gone_text oldest = line (two (codes "gone") (decimal oldest))

abbrev pub ahead_text : (newest : ℕ) → List ℕ
ahead_text newest = line (two (codes "ahead") (decimal newest))
