-- What a caller holds and found, by its own entries, after one more event.
use Rattle.std.specs.Prelude.{◌≡◌, ℕ, List, None, Some, ⊤}
use Rattle.kr_store.specs.declared.rows.Row.{Row}
use Rattle.kr_provider.specs.Publication.{Publication}
use Rattle.kr_rollout.specs.declared.answer.Answer.{Answer}
use Rattle.kr_rollout.specs.declared.answer.Answer.TheVariants as answer
use Rattle.kr_rollout.specs.declared.event.Event.{Event}
use Rattle.kr_rollout.specs.declared.event.Event.TheVariants as event
use Rattle.kr_history.specs.Acting.{Caller, AddsEntry}
use Rattle.kr_rollout.specs.Callers.{holding, found_in}

-- what was adopted is held
abbrev pub AdoptedIsHeld : Type 0
AdoptedIsHeld = (old new : Caller) (replica number : ℕ) (p : Publication)
    → AddsEntry old (event.Adopt replica) (answer.Adopted number p) new
    → holding new.mine ≡ Some (number, p)

-- what was let go isn't
abbrev pub ReleasedIsNotHeld : Type 0
ReleasedIsNotHeld = (old new : Caller) → AddsEntry old event.LetGo answer.Released new
    → holding new.mine ≡ None

-- an event that was neither adopts nor lets go: what is held stays
abbrev pub LeavesHolding : Answer → Type 0
LeavesHolding (answer.Adopted number p) = ⊥
LeavesHolding answer.Released = ⊥
LeavesHolding given = ⊤

abbrev pub HoldingStays : Type 0
HoldingStays = (old new : Caller) (asked : Event) (given : Answer) → LeavesHolding given
    → AddsEntry old asked given new → holding new.mine ≡ holding old.mine

-- the row that was found is the one that was found last
abbrev pub FetchedIsFound : Type 0
FetchedIsFound = (old new : Caller) (path : List ℕ) (row : Row)
    → AddsEntry old (event.Fetch path) (answer.Found row) new → found_in new.mine ≡ Some row

abbrev pub NextIsFound : Type 0
NextIsFound = (old new : Caller) (path : List ℕ) (row : Row)
    → AddsEntry old (event.After path) (answer.Found row) new → found_in new.mine ≡ Some row
