-- What one line makes of a watch.
use Rattle.std.specs.Prelude.{◌≡◌, ℕ, ◌++◌, List, Option, None, Some}
use Rattle.std.specs.Option.{option_map, option_to_list}
use Rattle.kr_rollout.specs.Written.{path_written}
use Rattle.kr_rollout.specs.declared.line.Did.{Did}
use Rattle.kr_rollout.specs.declared.line.Did.TheVariants.{Put, Delete}
use Rattle.kr_rollout.specs.declared.line.Gave.{Gave}
use Rattle.kr_rollout.specs.declared.line.Gave.TheVariants.{Written}
use Rattle.kr_rollout.specs.declared.line.Line.{Line}
use Rattle.kr_watch.specs.declared.change.ObjectChange.{ObjectChange}
use Rattle.kr_watch.specs.declared.item.Item.{Item}
use Rattle.kr_watch.specs.Changes.{told_change, earlier_ones, last_ones, revision_after}
use Rattle.kr_watch.specs.Shown.{AreInOrder, ChangesItem, item_at}
use Rattle.kr_watch.specs.Watches.{WatchState}

abbrev pub at_revision : ℕ → Item → Item
at_revision revision item = record item { revision = revision }

-- the item that a written row leaves at its path, which had this one
abbrev pub item_by : Did → (revision : ℕ) → Option Item → Option Item
item_by (Put path resource plain) revision item = Some (record {
  path = path;
  resource = resource;
  revision = revision;
  plain = Some plain;
})
item_by (Delete path) revision item = None
item_by did revision item = option_map (at_revision revision) item

-- no other item changes, and none where no row was written
abbrev pub NotesItem : Gave → Did → (old new : List Item) → Type 0
NotesItem (Written revision) did old new = ChangesItem (path_written did)
    (item_by did revision (item_at old (path_written did))) old new
NotesItem gave did old new = new ≡ old

-- one more change is kept, if there is one, and the oldest one goes where that is too many
pub record KeepsChange (change : Option ObjectChange) (old new : WatchState) : Type 0 where
  pub kept : new.changes ≡ last_ones old.keep (old.changes ++ option_to_list change)
  pub dropped : new.oldest ≡ revision_after old.oldest
      (earlier_ones old.keep (old.changes ++ option_to_list change))

-- how many are kept stays
pub record Notes (line : Line) (old new : WatchState) : Type 0 where
  pub keep : new.keep ≡ old.keep
  pub in_order : AreInOrder new.items
  pub items : NotesItem line.gave line.did old.items new.items
  pub changes : KeepsChange (told_change line.gave line.did) old new
