-- What follows for a reader of pages and changes.
use Rattle.std.specs.Prelude.{◌≡◌, ◌≢◌, ℕ, ◌≤◌, List, [], ◌∷◌, ◌++◌, length, filter, count_by, All, AllPairs, Some}
use Rattle.std.specs.Str.{bytes_eq}
use Rattle.kr_base.specs.Rules.{IsPath}
use Rattle.kr_kms.specs.Opens.{Opens}
use Rattle.kr_store.specs.Rows.{live}
use Rattle.kr_store.specs.declared.rows.Row.{Row}
use Rattle.kr_rollout.specs.Histories.{IsLegal, state_of}
use Rattle.kr_rollout.specs.declared.line.Gave.TheVariants.{Written}
use Rattle.kr_rollout.specs.declared.line.Line.{Line}
use Rattle.kr_rollout.specs.declared.opening.Entry.{Entry}
use Rattle.kr_rollout.specs.declared.opening.Opening.{Opening}
use Rattle.kr_watch.specs.declared.item.Item.{Item}
use Rattle.kr_watch.specs.Changes.{FollowOn, changes_above, changes_in, revision_after}
use Rattle.kr_watch.specs.Noting.{Notes}
use Rattle.kr_watch.specs.Pages.{AreTaken, Taken, has_resource, items_above, items_taken}
use Rattle.kr_watch.specs.Shown.{AreInOrder, ChangesItem, IsItemFor, IsShown, IsShownSince, item_at, plain_at}
use Rattle.kr_watch.specs.Watches.{Follows, IsNextLine, WatchState, new_watch, newest_of}

-- ---- what is shown

-- it is one list
abbrev pub OneShown : Type 0
OneShown = (opens : Opens) (o : Opening) (history : List Entry) (items others : List Item)
    → IsShown opens o history items → IsShown opens o history others → items ≡ others

-- items were put to their places one after another
abbrev pub PutsAll : (old : List Item) → List Item → (new : List Item) → Type 0
PutsAll old [] new = new ≡ old
PutsAll old (item ∷ items) new = (next : List Item)
    × ChangesItem item.path (Some item) old next × PutsAll next items new

-- no two have one path
abbrev pub AreApart : List Item → Type 0
AreApart items = AllPairs (λ (a : Item) (b : Item). a.path ≢ b.path) items

-- those that were handed to a new watch, each once, stand at their paths, and nothing else does
abbrev pub SeedsStand : Type 0
SeedsStand = (seeds items : List Item) (path : List ℕ) → AreApart seeds → PutsAll [] seeds items
    → item_at items path ≡ item_at seeds path

-- the items of the opening's live rows, each once, whatever data they have
pub record AreLiveItems (o : Opening) (items : List Item) : Type 0 where
  pub apart : AreApart items
  pub each : (path : List ℕ)
      → IsItemFor path (live o.rows path) (plain_at items path) (item_at items path)

-- a new watch to which they were handed follows the opening
abbrev pub SeedsFollow : Type 0
SeedsFollow = (o : Opening) (seeds items : List Item) (keep : ℕ) → AreLiveItems o seeds
    → PutsAll [] seeds items → AreInOrder items
    → Follows seeds o [] (record (new_watch keep (length o.rows)) { items = items })

-- where the first items are what is shown of the opening, what is shown since is what is shown of
-- the history
abbrev pub ShownSinceIsShown : Type 0
ShownSinceIsShown = (opens : Opens) (o : Opening) (history : List Entry) (first items : List Item)
    → IsShown opens o [] first → IsShownSince first o history items
    → IsShown opens o history items

-- the lines of these entries were noted one after another
abbrev pub NotesAll : (old : WatchState) → List Entry → (new : WatchState) → Type 0
NotesAll old [] new = new ≡ old
NotesAll old (e ∷ entries) new =
    (next : WatchState) × Notes e.line old next × NotesAll next entries new

-- a watch that followed a history and was then handed more of it, line by line, follows the whole
abbrev pub FollowsAll : Type 0
FollowsAll = (first : List Item) (o : Opening) (history more : List Entry) (old new : WatchState)
    → IsLegal o (history ++ more) → Follows first o history old → NotesAll old more new
    → Follows first o (history ++ more) new

-- ---- pages

-- while nothing changes, pages have each item of the resource once and in order
abbrev pub PagesAreAll : Type 0
PagesAreAll = (resource after : List ℕ) (items : List Item) (pages : List Taken)
    → AreTaken resource (Some after) pages → All (λ (taken : Taken). taken.items ≡ items) pages
    → items_taken pages ≡ items_above items resource after

-- behind the empty path these are all of the resource that are shown
abbrev pub ShownAreAbove : Type 0
ShownAreAbove = (opens : Opens) (o : Opening) (history : List Entry) (resource : List ℕ)
    (items : List Item) → IsLegal o history → IsShown opens o history items
    → items_above items resource [] ≡ filter (has_resource resource) items

-- at this moment the path's item is one of the resource
abbrev pub IsThere : (resource path : List ℕ) → Taken → Type 0
IsThere resource path taken =
    (item : Item) × (item_at taken.items path ≡ Some item) × (item.resource ≡ resource)

-- whatever changes between pages, a path at which an item of the resource stands whenever one is
-- taken is on one of them, once
abbrev pub PagesHaveEach : Type 0
PagesHaveEach = (resource path : List ℕ) (pages : List Taken) → IsPath path
    → AreTaken resource (Some []) pages → All (IsThere resource path) pages
    → count_by (λ (item : Item). bytes_eq item.path path) (items_taken pages) ≡ 1

-- when the page was taken the watch had what is shown of some history, and the path lived there for
-- the resource
pub record IsLiveThen (first : List Item) (o : Opening) (resource path : List ℕ) (taken : Taken)
    : Type 0 where
  pub history : List Entry
  pub legal : IsLegal o history
  pub shown : IsShownSince first o history taken.items
  pub row : Row
  pub lives : live (state_of o history).rows path ≡ Some row
  pub own : row.resource ≡ resource

-- so whatever lines are noted between pages, a path that lives for the resource whenever one is
-- taken is on one of them, once
abbrev pub LiveIsListed : Type 0
LiveIsListed = (first : List Item) (o : Opening) (resource path : List ℕ) (pages : List Taken)
    → AreTaken resource (Some []) pages → All (IsLiveThen first o resource path) pages
    → count_by (λ (item : Item). bytes_eq item.path path) (items_taken pages) ≡ 1

-- ---- changes

-- each change of a history has the revision behind the one before it, the first one that behind the
-- opening's rows, and the last one that of the last row
abbrev pub ChangesFollowOn : Type 0
ChangesFollowOn = (o : Opening) (history : List Entry) → IsLegal o history
    → FollowOn (length o.rows) (changes_in history)
    × (revision_after (length o.rows) (changes_in history) ≡ length (state_of o history).rows)

-- the next line of the history that the watch was handed is its next one
abbrev pub NextLineIsNext : Type 0
NextLineIsNext = (first : List Item) (o : Opening) (history : List Entry) (e : Entry)
    (watch : WatchState) → IsLegal o (history ++ e ∷ []) → Follows first o history watch
    → IsNextLine watch e.line

-- behind a line that wrote a row the newest revision is that of the row
abbrev pub NotedIsNewest : Type 0
NotedIsNewest = (line : Line) (old new : WatchState) (revision : ℕ) → Notes line old new
    → line.gave ≡ Written revision → newest_of new ≡ revision

-- the newest revision is that of the history's last change, and the opening's where there is none
abbrev pub NewestIsLast : Type 0
NewestIsLast = (first : List Item) (o : Opening) (history : List Entry) (watch : WatchState)
    → Follows first o history watch
    → newest_of watch ≡ revision_after (length o.rows) (changes_in history)

-- above a revision that isn't gone the kept changes are all of the history's
abbrev pub NoneIsMissing : Type 0
NoneIsMissing = (first : List Item) (o : Opening) (history : List Entry) (watch : WatchState)
    (revision : ℕ) → IsLegal o history → Follows first o history watch
    → watch.oldest ≤ revision
    → changes_above revision watch.changes ≡ changes_above revision (changes_in history)
