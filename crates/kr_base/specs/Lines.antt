-- Lines of a history, and whose they are.
use Rattle.std.specs.Prelude.{◌≡◌, ◌==◌, ℕ, List}
use Rattle.std.specs.List.{filter}
use mathlib.Core.List.{IsPrefix}

-- the lines of one seat, in order
abbrev pub of_seat : {L : Type 0} → (L → ℕ) → ℕ → List L → List L
of_seat seat_of seat lines = filter (λ line. seat_of line == seat) lines

-- a seat's view stands in a history: what it saw begins the history, which has of this seat the
-- lines
-- `mine` and no others
pub record Stands {L : Type 0} (seat_of : L → ℕ) (lines : List L) (seat : ℕ)
    (seen mine : List L) : Type 0 where
  pub front : IsPrefix seen lines
  pub whole : of_seat seat_of seat lines ≡ mine
