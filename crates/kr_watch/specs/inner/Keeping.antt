-- The changes that are kept.
use Rattle.std.specs.Prelude.{◌≡◌, ℕ, ◌≤◌, ◌<◌, List, [], length, Result, Ok, Err}
use Rattle.kr_watch.specs.declared.change.ObjectChange.{ObjectChange}
use Rattle.kr_watch.specs.declared.since_no.SinceNo.{SinceNo}
use Rattle.kr_watch.specs.declared.since_no.SinceNo.TheVariants.{Gone, Ahead, NoMemory}
use Rattle.kr_watch.specs.Changes.{FollowOn, changes_above, revision_after}

-- how many are kept, the revision before them, and they
pub record KeptState : Type 0 where
  pub keep : ℕ
  pub oldest : ℕ
  pub changes : List ObjectChange

abbrev pub new_changes : (keep revision : ℕ) → KeptState
new_changes keep revision = record { keep = keep; oldest = revision; changes = [] }

-- they are not too many, and each has the revision behind the one before it
pub record IsKept (keep oldest : ℕ) (changes : List ObjectChange) : Type 0 where
  pub some : 1 ≤ keep
  pub few : length changes ≤ keep
  pub follow : FollowOn oldest changes

abbrev pub TellsKept : KeptState → (revision : ℕ) → Result (List ObjectChange × ℕ) SinceNo → Type 0
TellsKept kept revision (Ok told) = (kept.oldest ≤ revision)
    × (revision ≤ revision_after kept.oldest kept.changes)
    × (told.0 ≡ changes_above revision kept.changes)
TellsKept kept revision (Err (Gone oldest)) = (oldest ≡ kept.oldest) × (revision < oldest)
TellsKept kept revision (Err (Ahead newest)) =
    (newest ≡ revision_after kept.oldest kept.changes) × (newest < revision)
TellsKept kept revision (Err NoMemory) = (kept.oldest ≤ revision)
    × (revision ≤ revision_after kept.oldest kept.changes)
