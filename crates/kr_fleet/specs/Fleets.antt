-- A core with several seats: what a seat is as a caller of it, and what the seats know at the end.
use Rattle.std.specs.Prelude.{◌≡◌, ℕ, List, [], All, Contains}
use Rattle.kr_turn.specs.Keys.{Home}
use Rattle.kr_turn.specs.Seats.{IsSeatOf, number_of, left_of, lines_seen, mine}
use Rattle.kr_turn.specs.declared.seat.Place.{Place}
use Rattle.kr_kms.specs.Opens.{Opens}
use Rattle.kr_rollout.specs.declared.answer.Answer.{Answer}
use Rattle.kr_rollout.specs.declared.event.Event.{Event}
use Rattle.kr_rollout.specs.declared.opening.Entry.{Entry}
use Rattle.kr_rollout.specs.declared.opening.Opening.{Opening}
use Rattle.kr_history.specs.Acting.{Caller, IsCaller}
use Rattle.kr_rollout.specs.Callers.{Records}
use Rattle.kr_rollout.specs.Entries.{seat_of}
use Rattle.kr_rollout.specs.Histories.{state_of}
use Rattle.kr_history.specs.Honesty.{IsHonest, KeepsHonest}
use Rattle.kr_rollout.specs.Steps.{IsStep}

-- the entry is a step from where the entries before it lead, and that of this seat, event and
-- answer
abbrev pub IsEntryOf : Opening → List Entry → ℕ → Event → Answer → Entry → Type 0
IsEntryOf o before seat event answer e =
    IsStep o (state_of o before) e × Records seat event answer e

-- a seat that acts on a fleet: which fleet it is, and the seat
pub record FleetSeat (S : Type 0) : Type 0 where
  pub home : Home Opening
  pub seat : Place S Entry Opening

module _ {S : Type 0} where
  -- what a seat has of the core
  abbrev pub caller_of : Home Opening → Place S Entry Opening → Caller
  caller_of home seat = record {
    opening = home.terms.basis;
    seat = number_of seat;
    seen = lines_seen seat;
    mine = mine seat;
    left = left_of seat;
  }

  -- the seat is one of this fleet's, and what is known of each caller holds of it
  pub record IsFleetSeat (home : Home Opening) (seat : Place S Entry Opening) : Type 0 where
    pub its : IsSeatOf home seat
    pub caller : IsCaller (caller_of home seat)

  -- each entry of the history is an own one of a seat
  abbrev pub AreAdded : List (Place S Entry Opening) → List Entry → Type 0
  AreAdded seats history = All (λ e. (seat : Place S Entry Opening) × Contains seats seat
      × (number_of seat ≡ seat_of e) × Contains (mine seat) e) history

  -- where the opening is honest and each seat kept honest what it saw, so is the history
  abbrev pub HonestIfSeatsAre : Home Opening → List (Place S Entry Opening) → List Entry → Type 0
  HonestIfSeatsAre home seats history = (opens : Opens) → IsHonest opens home.terms.basis []
      → All (IsFleetSeat home) seats
      → All (λ seat. KeepsHonest opens home.terms.basis (number_of seat) (lines_seen seat)) seats
      → IsHonest opens home.terms.basis history
