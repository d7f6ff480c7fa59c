-- What follows from the definitions of histories and of what seats know by their own entries.
use Rattle.std.specs.Prelude.{◌≡◌, ℕ, ◌<◌, ◌++◌, List, length, Option, Some, Ok}
use Rattle.kr_store.specs.declared.rows.Row as stored_row
use Rattle.kr_store.specs.Rows.{put_at}
use Rattle.kr_config.specs.Kept.{ConfigEntry}
use Rattle.kr_judge.specs.declared.need.Need.{Need}
use Rattle.kr_judge.specs.declared.verdict.Verdict.{Verdict}
use Rattle.kr_rollout.specs.declared.opening.Entry.{Entry}
use Rattle.kr_rollout.specs.declared.opening.Opening.{Opening}
use Rattle.kr_base.specs.Lines.{of_seat}
use Rattle.kr_rollout.specs.Entries.{seat_of}
use Rattle.kr_rollout.specs.States.{held_by}
use Rattle.kr_rollout.specs.Histories.{state_of, IsLegal}
use Rattle.kr_rollout.specs.Callers.{number_with, holding, found_in}
use Rattle.kr_opening.specs.Starts.{AllFit, IsUnfit, Boards}
use Rattle.kr_judge.specs.Boards.{BoardState}
use Rattle.kr_rollout.specs.Openings.{start_of, room_of, board}
use Rattle.kr_opening.specs.Replicas.{settings_of}

-- a replica that is named as unfit doesn't fit with the others
abbrev pub UnfitIsUnfit : Type 0
UnfitIsUnfit = (replicas : List (Option (List ConfigEntry))) (needs : List Need) (replica : ℕ)
    (verdict : Verdict) → IsUnfit replicas needs replica verdict → AllFit replicas needs → ⊥

-- a front of a legal history is legal
abbrev pub FrontIsLegal : Type 0
FrontIsLegal = (o : Opening) (front more : List Entry) → IsLegal o (front ++ more) → IsLegal o front

-- what a seat holds by its own entries is what it holds in the state
abbrev pub HoldingIsHeld : Type 0
HoldingIsHeld = (o : Opening) (history : List Entry) (seat : ℕ) → IsLegal o history
    → seat < length o.reloads
    → holding (of_seat seat_of seat history)
    ≡ number_with (state_of o history).generations (held_by (state_of o history) seat)

-- the row that a seat found last is still that of its revision
abbrev pub FoundIsThere : Type 0
FoundIsThere = (o : Opening) (history : List Entry) (seat : ℕ) (row : stored_row.Row)
    → IsLegal o history
    → found_in (of_seat seat_of seat history) ≡ Some row
    → put_at (state_of o history).rows row.revision ≡ Some row

-- the board that is made of an opening's rows and of its replicas' settings, with room for as many
-- generations, is the one of the state that a core begins with
abbrev pub BoardAtStart : Type 0
BoardAtStart = (o : Opening) (made : BoardState)
    → Boards o.rows (settings_of o.replicas) (room_of o) (Ok made) → made ≡ board o (start_of o)
