-- A caller of a core: what its seat has seen of the journal, and what its events add to that.
use Rattle.std.specs.Prelude.{◌≡◌, ℕ, ◌<◌, ◌+◌, ◌-◌, List, [], ◌∷◌, ◌++◌, length}
use Rattle.kr_base.specs.Lines.{of_seat}
use Rattle.kr_rollout.specs.declared.answer.Answer.{Answer}
use Rattle.kr_rollout.specs.declared.event.Event.{Event}
use Rattle.kr_rollout.specs.declared.opening.Entry.{Entry}
use Rattle.kr_rollout.specs.declared.opening.Opening.{Opening}
use Rattle.kr_rollout.specs.Entries.{seat_of}
use Rattle.kr_rollout.specs.Histories.{state_of, IsLegal}
use Rattle.kr_rollout.specs.Steps.{IsStep}
use Rattle.kr_rollout.specs.Callers.{Records}
use Rattle.kr_rollout.specs.Cores.{CoreState}

-- the opening, the seat, a front of the history that has all of the seat's entries so far, these,
-- and how many it may still add
pub record Caller : Type 0 where
  pub opening : Opening
  pub seat : ℕ
  pub seen : List Entry
  pub mine : List Entry
  pub left : ℕ

-- what was seen is legal, and its entries of the seat are the caller's own
pub record IsCaller (c : Caller) : Type 0 where
  pub legal : IsLegal c.opening c.seen
  pub own : of_seat seat_of c.seat c.seen ≡ c.mine
  pub seat_in : c.seat < length c.opening.reloads

-- behind what was seen stand others' entries, and then exactly this event's: it is a step from
-- there, and has this answer
pub record AddsEntry (old : Caller) (event : Event) (answer : Answer) (new : Caller) : Type 0 where
  pub others : List Entry
  pub entry : Entry
  pub new_is : new ≡ record old {
    seen = (old.seen ++ others) ++ entry ∷ [];
    mine = old.mine ++ entry ∷ [];
    left = new.left;
  }
  pub left_is : new.left + 1 ≡ old.left
  pub apart : of_seat seat_of old.seat others ≡ []
  pub legal : IsLegal old.opening (old.seen ++ others)
  pub step : IsStep old.opening (state_of old.opening (old.seen ++ others)) entry
  pub records : Records old.seat event answer entry

-- the only caller of a core, as seat 0
abbrev pub only_caller : CoreState → Caller
only_caller core = record {
  opening = core.opening;
  seat = 0;
  seen = core.history;
  mine = core.history;
  left = core.room - length core.history;
}
