-- A history in two parts.
use Rattle.std.proofs.Common.{◌≡◌, List, [], ◌∷◌, ◌++◌, refl}
use Rattle.kr_rollout.specs.declared.opening.Entry.{Entry}
use Rattle.kr_rollout.specs.declared.opening.Opening.{Opening}
use Rattle.kr_rollout.specs.Openings.{start_of}
use Rattle.kr_rollout.specs.Histories.{state_from, IsRun, IsLegal}
use Rattle.kr_rollout.specs.States.{State}
use Rattle.kr_rollout.specs.Steps.{after}

pub more_state : (st : State) (history more : List Entry)
    → state_from st (history ++ more) ≡ state_from (state_from st history) more
more_state st [] more = refl
more_state st (e ∷ history) more = more_state (after st e) history more

pub run_parts : (o : Opening) (st : State) (history more : List Entry)
    → IsRun o st (history ++ more) → IsRun o st history × IsRun o (state_from st history) more
run_parts o st [] more r = (tt, r)
run_parts o st (e ∷ history) more r =
    let rest = run_parts o (after st e) history more r.1 in ((r.0, rest.0), rest.1)

pub legal_front : (o : Opening) (history more : List Entry) → IsLegal o (history ++ more)
    → IsLegal o history
legal_front o history more l = record {
  opens = l.opens;
  fit = l.fit;
  runs = (run_parts o (start_of o) history more l.runs).0;
}
