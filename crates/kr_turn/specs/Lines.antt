-- A turn as a step in the common history.
use Rattle.std.specs.Prelude.{◌≡◌, ℕ, List, [], ◌∷◌, ◌++◌}
use Rattle.kr_base.specs.Lines.{of_seat}

-- A turn of a seat that had seen `seen`, of which `mine` are its own lines. Others' lines, none of
-- them this seat's, and then exactly the line of this turn come behind what it had seen, and that
-- line behind its own. So the seat's own lines are just those that it has among the lines seen. The
-- answer and the line stand to all lines before as the state tells, and the law holds before that
-- line and with it.
pub record IsTurn {L G E A : Type 0} (seat_of : L → ℕ) (law : G → List L → Type 0)
    (tells : G → List L → ℕ → E → A → L → Type 0) (basis : G) (seat : ℕ) (event : E) (answer : A)
    (seen mine seen' mine' : List L) : Type 0 where
  pub others : List L
  pub line : L
  pub seen_is : seen' ≡ (seen ++ others) ++ line ∷ []
  pub mine_is : mine' ≡ mine ++ line ∷ []
  pub apart : of_seat seat_of seat others ≡ []
  pub own : seat_of line ≡ seat
  pub whole : of_seat seat_of seat seen' ≡ mine'
  pub told : tells basis (seen ++ others) seat event answer line
  pub law_before : law basis (seen ++ others)
  pub law_after : law basis seen'
