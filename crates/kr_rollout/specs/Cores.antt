-- What a core is seen as, and what its calls do.
use Rattle.std.specs.Prelude.{◌≡◌, ℕ, ◌<◌, List, [], ◌∷◌, ◌++◌, length, ⊤}
use Rattle.kr_base.specs.Lines.{of_seat}
use Rattle.kr_rollout.specs.declared.answer.Answer.{Answer}
use Rattle.kr_rollout.specs.declared.event.Event.{Event}
use Rattle.kr_rollout.specs.declared.opening.Entry.{Entry}
use Rattle.kr_rollout.specs.declared.opening.Opening.{Opening}
use Rattle.kr_rollout.specs.Callers.{MayAsk, Records}
use Rattle.kr_rollout.specs.Entries.{seat_of}
use Rattle.kr_rollout.specs.Histories.{state_of}
use Rattle.kr_rollout.specs.Steps.{IsStep}

-- what it began with, its history, and how many entries that may have
pub record CoreState : Type 0 where
  pub opening : Opening
  pub history : List Entry
  pub room : ℕ

-- exactly one entry is appended: it is that of this seat, event and answer, and a step from the
-- state before it
pub record Applies (old : CoreState) (seat : ℕ) (event : Event) (answer : Answer) (new : CoreState)
    : Type 0 where
  pub entry : Entry
  pub new_is : new ≡ record old { history = old.history ++ entry ∷ [] }
  pub step : IsStep old.opening (state_of old.opening old.history) entry
  pub records : Records seat event answer entry

-- each event of a list meets its condition, whatever was answered to those before it
abbrev pub AllMay : CoreState → List (ℕ × Event) → Type 0
AllMay core [] = ⊤
AllMay core (asked ∷ events) = (length core.history < core.room)
    × MayAsk core.opening asked.0 (of_seat seat_of asked.0 core.history) asked.1
    × ((answer : Answer) (next : CoreState) → Applies core asked.0 asked.1 answer next
    → AllMay next events)

-- they are made one after the other
abbrev pub AllApply : CoreState → List (ℕ × Event) → CoreState → Type 0
AllApply old [] new = new ≡ old
AllApply old (asked ∷ events) new = (answer : Answer) × (next : CoreState)
    × Applies old asked.0 asked.1 answer next × AllApply next events new
