-- What each step of the lock tells the seat that makes it. None tells anything of another seat's
-- view.
use Rattle.std.specs.Prelude.{◌≡◌, ◌≢◌, ℕ, ◌+◌, ◌-◌, ◌<◌, List, [], ◌∷◌, ◌++◌, length, drop, Option}
use Rattle.std.specs.Prelude.{Some, None}
use mathlib.Core.List.{IsPrefix}
use Rattle.atomic_table.specs.Table.{Me, Step}
use Rattle.kr_turn.specs.declared.view.Stage.{Stage}
use Rattle.kr_turn.specs.declared.view.Stage.TheVariants.{Blank, Filling, Idle, Waiting, Holding}
use Rattle.kr_turn.specs.declared.view.Stage.TheVariants.{Gone}
use Rattle.kr_turn.specs.declared.view.Terms.{Terms}
use Rattle.kr_turn.specs.declared.view.ViewPart.{ViewPart}
use Rattle.kr_turn.specs.declared.view.View.{View}
use Rattle.kr_base.specs.Lines.{of_seat}
use Rattle.kr_turn.specs.inner.Rule.{idle_view}
use Rattle.kr_turn.specs.Keys.{seat_budget}

-- a seat's view, and the slot where it is in hand
abbrev pub SeatState : Type 0 → Type 0 → Type 0 → Type 0
SeatState S L G = Me (Option S) (View L G)

module _ {L : Type 0} where
  -- the lines that were served where the seat has the slot in hand
  abbrev pub served_to : Stage L → List L
  served_to Blank = []
  served_to Filling = []
  served_to Idle = []
  served_to (Waiting ticket) = []
  served_to (Holding served) = served
  served_to Gone = []

module _ {L G : Type 0} where
  -- the first seat, as the maker of this one
  abbrev pub maker : Option (Terms G) → ℕ → View L G
  maker terms number = idle_view terms number [] [] (seat_budget terms number) []
      (Some (number + 1))

  abbrev pub filling_view : View L G → View L G
  filling_view v = record v { stage = Filling }

  -- the first seat is the seat of number 0 and makes the others
  abbrev pub opening_view : View L G → View L G
  opening_view v = maker v.terms 0

  -- a drawn ticket is one turn less left
  abbrev pub waiting_view : View L G → ℕ → View L G
  waiting_view v ticket = record v { stage = Waiting ticket; left = v.left - 1 }

  abbrev pub holding_view : View L G → List L → View L G
  holding_view v served = record v { stage = Holding served }

  -- a seat that has seen all of `log`, of which what is behind the served lines is its own
  abbrev pub view_after : View L G → List L → View L G
  view_after v log = record v {
    stage = Idle;
    seen = log;
    mine = v.mine ++ drop (length (served_to v.stage)) log;
  }

  -- the seat that makes seats goes on with the next number
  abbrev pub makes_at : View L G → Option ℕ → View L G
  makes_at v None = v
  makes_at v (Some made) = maker v.terms made

  abbrev pub next_of : View L G → View L G
  next_of v = makes_at v v.made

  -- the new seat has what the maker had
  abbrev pub new_of : View L G → View L G
  new_of v = record v { made = None }

  abbrev pub part_of : View L G → ViewPart L
  part_of v = record { number = v.number; seen = v.seen; mine = v.mine }

  -- the seat v with the seat w ended in it
  abbrev pub joined_view : View L G → View L G → View L G
  joined_view v w = record v { left = v.left + w.left; ended = part_of w ∷ v.ended }

module _ {S L : Type 0} (lines : S → List L) where
  abbrev lines_in : Option S → List L
  lines_in None = []
  lines_in (Some state) = lines state

  -- the lines of the state in hand
  abbrev pub carried_lines : List (ℕ × Option S) → List L
  carried_lines [] = []
  carried_lines (x ∷ xs) = lines_in x.1

module _ {S L G : Type 0} where
  -- the first seat takes the empty slot
  abbrev pub Empties : Step (Option S) → SeatState S L G → ℕ → SeatState S L G → Type 0
  Empties st m found m' = m' ≡ (filling_view m.0, (0, None) ∷ [])

  -- the first seat gives the slot
  abbrev pub Fills : Step (Option S) → SeatState S L G → ℕ → SeatState S L G → Type 0
  Fills st m found m' = m' ≡ (opening_view m.0, [])

  -- a seat has drawn the ticket that it found
  abbrev pub Draws : Step (Option S) → SeatState S L G → ℕ → SeatState S L G → Type 0
  Draws st m found m' = (m' ≡ (waiting_view m.0 found, m.1)) × (found + 1 < 18446744073709551616)

  -- the served seat gives the slot, and has seen the lines of the state that it gives
  abbrev pub Passes : (S → List L) → Step (Option S) → SeatState S L G → ℕ → SeatState S L G
      → Type 0
  Passes lines st m found m' = m' ≡ (view_after m.0 (carried_lines lines m.1), [])

  module _ (lines : S → List L) (basis : S → G) (room : S → ℕ) (seat_of : L → ℕ) where
    -- the seat is served: it has the state, whose lines are the served ones. They begin with what
    -- the seat saw, and it knows its own among them
    pub record IsServed (ticket : ℕ) (m m' : SeatState S L G) : Type 0 where
      pub state : S
      pub terms : Terms G
      pub now : m' ≡ (holding_view m.0 (lines state), (0, Some state) ∷ [])
      pub count : length (lines state) ≡ ticket
      pub terms_are : m.0.terms ≡ Some terms
      pub basis_is : basis state ≡ terms.basis
      pub room_is : room state ≡ terms.room
      pub fits : length (lines state) < room state
      pub front : IsPrefix m.0.seen (lines state)
      pub whole : of_seat seat_of m.0.number (lines state) ≡ m.0.mine
      pub own : of_seat seat_of m.0.number m.0.seen ≡ m.0.mine

    -- a seat with this ticket is served, or nothing has changed
    abbrev pub Looks : Step (Option S) → SeatState S L G → ℕ → SeatState S L G → Type 0
    Looks st m found m' = (ticket : ℕ) → m.0.stage ≡ Waiting ticket
        → (found ≡ ticket → IsServed ticket m m') × (found ≢ ticket → m' ≡ m)

    -- the served seat has the state after its turn: one line more, which is its own
    pub record IsTurned (ticket : ℕ) (m : SeatState S L G) : Type 0 where
      pub log : List L
      pub line : L
      pub state : S
      pub terms : Terms G
      pub stage_is : m.0.stage ≡ Holding log
      pub carries : m.1 ≡ (0, Some state) ∷ []
      pub count : length log ≡ ticket
      pub lines_are : lines state ≡ log ++ line ∷ []
      pub mine : seat_of line ≡ m.0.number
      pub terms_are : m.0.terms ≡ Some terms
      pub basis_is : basis state ≡ terms.basis
      pub room_is : room state ≡ terms.room
