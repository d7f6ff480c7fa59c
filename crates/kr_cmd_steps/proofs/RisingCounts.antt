-- A store's count of faults never falls.
use Rattle.std.proofs.Common.{◌≤◌, List, [], ◌∷◌, arith}
use Rattle.kr_rollout.specs.Histories.{IsRun, state_from}
use Rattle.kr_rollout.specs.States.{State}
use Rattle.kr_rollout.specs.Steps.{after}
use Rattle.kr_rollout.specs.declared.opening.Entry.{Entry}
use Rattle.kr_rollout.specs.declared.opening.Opening.{Opening}

-- the store's count of faults never falls
pub counted : (o : Opening) (st : State) (history : List Entry) → IsRun o st history
    → st.count ≤ (state_from st history).count
counted o st [] runs = omega arith
counted o st (e ∷ history) runs =
    let more = counted o (after st e) history runs.1 in
    let one = runs.0.counted in omega (arith, more, one)
