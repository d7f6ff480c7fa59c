-- How an answer tells whether the store's file has room for one more row.
use Rattle.std.specs.Prelude.{◌≡◌, ℕ, ◌<◌, ◌≤◌, List, [], ◌∷◌, ◌++◌, ⊤}
use Rattle.kr_store.specs.declared.rows.LogRow.{LogRow}
use Rattle.kr_rollout.specs.declared.line.Gave.{Gave}
use Rattle.kr_rollout.specs.declared.line.Gave.TheVariants.{StoreFull, Nothing}
use Rattle.kr_rollout.specs.declared.opening.Entry.{Entry}
use Rattle.kr_rollout.specs.declared.opening.Opening.{Opening}
use Rattle.kr_rollout.specs.Writes.{WouldWrite, file_size}
use Rattle.kr_rollout.specs.Histories.{state_of, IsLegal}

-- the store is full exactly where a file of this size passes the limit, and then the size is told;
-- want of memory tells nothing
abbrev pub TellsSize : Gave → (limit size : ℕ) → Type 0
TellsSize (StoreFull needed) limit size = (needed ≡ size) × (limit < size)
TellsSize Nothing limit size = ⊤
TellsSize gave limit size = size ≤ limit

-- each answer to an event that would write a row tells so of that row, whichever it is of those
-- that the event might write
abbrev pub FullIsExact : Type 0
FullIsExact = (o : Opening) (history : List Entry) (e : Entry) (row : LogRow)
    → IsLegal o (history ++ e ∷ [])
    → WouldWrite o.format e.line.did (state_of o history).rows e.published row
    → TellsSize e.line.gave o.limit (file_size o.format (state_of o history).rows row)
