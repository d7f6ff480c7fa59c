-- Histories: entries from an opening on.
use Rattle.std.specs.Prelude.{Bool, List, [], ◌∷◌, ⊤}
use Rattle.kr_rollout.specs.declared.opening.Entry.{Entry}
use Rattle.kr_rollout.specs.declared.opening.Opening.{Opening}
use Rattle.kr_rollout.specs.States.{State}
use Rattle.kr_rollout.specs.Openings.{IsOpening, start_of}
use Rattle.kr_rollout.specs.Fits.{IsFit}
use Rattle.kr_rollout.specs.Steps.{IsStep, after, tears}

-- the state after some entries
abbrev pub state_from : State → List Entry → State
state_from st [] = st
state_from st (e ∷ entries) = state_from (after st e) entries

abbrev pub state_of : Opening → List Entry → State
state_of o history = state_from (start_of o) history

-- whether a write has failed since the last one that was done, after some entries
abbrev pub torn_from : Bool → List Entry → Bool
torn_from torn [] = torn
torn_from torn (e ∷ entries) = torn_from (tears e.line.gave torn) entries

abbrev pub ends_torn : Opening → List Entry → Bool
ends_torn o history = torn_from o.torn history

-- each entry is a step
abbrev pub IsRun : Opening → State → List Entry → Type 0
IsRun o st [] = ⊤
IsRun o st (e ∷ entries) = IsStep o st e × IsRun o (after st e) entries

pub record IsLegal (o : Opening) (history : List Entry) : Type 0 where
  pub opens : IsOpening o
  pub fit : IsFit (start_of o)
  pub runs : IsRun o (start_of o) history
