-- Steps one after another.
use Rattle.std.specs.Prelude.{◌≡◌, ℕ, List, [], ◌∷◌, Some, slice_get, slice_set}

-- these steps, one after another, lead from the one to the other
abbrev pub Walk : {S E : Type 0} → (S → E → S → Type 0) → S → List E → S → Type 0
Walk step old [] new = new ≡ old
Walk {S} step old (e ∷ es) new = (mid : S) × step old e mid × Walk step mid es new

-- by some steps, of which this holds
pub record Talk {S E : Type 0} (step : S → E → S → Type 0) (old new : S) (Are : List E → Type 0)
    : Type 0 where
  pub steps : List E
  pub walk : Walk step old steps new
  pub are : Are steps

-- the one at this place goes by these steps, and the others stay
pub record At {S E : Type 0} (step : S → E → S → Type 0) (olds : List S) (turn : ℕ × List E)
    (news : List S) : Type 0 where
  pub from : S
  pub to : S
  pub there : slice_get olds turn.0 ≡ Some from
  pub walk : Walk step from turn.1 to
  pub rest : news ≡ slice_set olds turn.0 to
