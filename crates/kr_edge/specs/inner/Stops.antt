-- How far the stops of a file went on.
use Rattle.std.specs.Prelude.{ℕ, ◌+◌, ◌≤◌, ⊤, Option, None, Some}
use Rattle.kr_edge.specs.Placed.{Stops}

-- it was interrupted so many times more at least, and may have failed
abbrev pub WasInterrupted : (times : ℕ) → Option Stops → Option Stops → Type 0
WasInterrupted times None new = ⊤
WasInterrupted times (Some old) None = ⊥
WasInterrupted times (Some old) (Some new) = (old.failed ≤ new.failed)
    × (old.interrupted + times ≤ new.interrupted)
