-- What a watch is seen as, and what its calls do.
use Rattle.std.specs.Prelude.{◌≡◌, ℕ, ◌+◌, ◌≤◌, ◌<◌, List, [], ◌∷◌, ◌++◌, length, Some, Result, Ok, Err}
use Rattle.kr_rollout.specs.Histories.{IsLegal}
use Rattle.kr_rollout.specs.declared.line.Gave.TheVariants.{Written}
use Rattle.kr_rollout.specs.declared.line.Line.{Line}
use Rattle.kr_rollout.specs.declared.opening.Entry.{Entry}
use Rattle.kr_rollout.specs.declared.opening.Opening.{Opening}
use Rattle.kr_watch.specs.declared.change.ObjectChange.{ObjectChange}
use Rattle.kr_watch.specs.declared.item.Item.{Item}
use Rattle.kr_watch.specs.declared.since_no.SinceNo.{SinceNo}
use Rattle.kr_watch.specs.declared.since_no.SinceNo.TheVariants.{Gone, Ahead, NoMemory}
use Rattle.kr_watch.specs.Shown.{IsShownSince, ChangesItem}
use Rattle.kr_watch.specs.Changes.{changes_above, changes_in, earlier_ones, last_ones, revision_after}

-- how many changes it keeps; the items in order; the kept changes, and the revision before them
pub record WatchState : Type 0 where
  pub keep : ℕ
  pub items : List Item
  pub oldest : ℕ
  pub changes : List ObjectChange

-- the revision of the last change
abbrev pub newest_of : WatchState → ℕ
newest_of watch = revision_after watch.oldest watch.changes

-- The watch was handed these first items, those of the opening's live rows, and then this history:
-- its items are what is shown, and it keeps the last of the changes. The revision before them is
-- that of the last change that was dropped, or the opening's where none was.
pub record Follows (first : List Item) (o : Opening) (history : List Entry) (watch : WatchState)
    : Type 0 where
  pub shown : IsShownSince first o history watch.items
  pub kept : watch.changes ≡ last_ones watch.keep (changes_in history)
  pub dropped : watch.oldest
      ≡ revision_after (length o.rows) (earlier_ones watch.keep (changes_in history))

-- ---- calls

-- nothing is shown yet
abbrev pub new_watch : (keep revision : ℕ) → WatchState
new_watch keep revision = record { keep = keep; items = []; oldest = revision; changes = [] }

-- the item stands at its path, and all else is as it was
pub record Seeds (item : Item) (old new : WatchState) : Type 0 where
  pub items : ChangesItem item.path (Some item) old.items new.items
  pub rest : new ≡ record old { items = new.items }

-- a line that wrote a row wrote the next one
abbrev pub IsNextLine : WatchState → Line → Type 0
IsNextLine watch line =
    (revision : ℕ) → line.gave ≡ Written revision → revision ≡ newest_of watch + 1

-- a watch that was handed a history was now handed it with the entry of the line
pub record GoesOn (line : Line) (old new : WatchState) : Type 0 where
  pub keep : new.keep ≡ old.keep
  pub follows : (first : List Item) (o : Opening) (history : List Entry) (e : Entry)
      → IsLegal o (history ++ e ∷ []) → e.line ≡ line → Follows first o history old
      → Follows first o (history ++ e ∷ []) new

-- the kept changes above a revision; or some of those above it were dropped; or there is no such
-- revision yet. Memory may lack for the changes alone
abbrev pub TellsSince : WatchState → (revision : ℕ) → Result (List ObjectChange × ℕ) SinceNo
    → Type 0
TellsSince watch revision (Ok changes) = (watch.oldest ≤ revision) × (revision ≤ newest_of watch)
    × (changes.0 ≡ changes_above revision watch.changes)
TellsSince watch revision (Err (Gone oldest)) = (oldest ≡ watch.oldest) × (revision < oldest)
TellsSince watch revision (Err (Ahead newest)) =
    (newest ≡ newest_of watch) × (newest < revision)
TellsSince watch revision (Err NoMemory) =
    (watch.oldest ≤ revision) × (revision ≤ newest_of watch)
