-- Steps up to workers that go one way over what is told: they refuse in one way, or begin.
use Rattle.std.proofs.Common.{◌≡◌, [], Ok, Err, refl}
use Rattle.kr_cmd_steps.specs.Phases.{silently}
use Rattle.kr_cmd_fleet.specs.Fleets.{Begun}
use Rattle.kr_cmd_steps.specs.Steps.{RunTo, StepState, Steps, and_then, give, gives, refuses}
use Rattle.kr_cmd_messages.specs.declared.refusal.Done.TheVariants.{Silent}
use Rattle.kr_cmd_messages.specs.declared.refusal.Outcome.{Outcome}
use Rattle.kr_cmd_messages.specs.declared.refusal.Refusal.{Refusal}
use Rattle.kr_cmd_messages.specs.declared.refusal.Stop.TheVariants.{Refused}
use Rattle.kr_cmd_steps.proofs.RunTo.{further}
use Rattle.kr_cmd_laws.proofs.OnePoint.{IsSettled, one_point}

-- these steps go one way
abbrev pub GoOneWay : Steps Outcome → StepState → Type 0
GoOneWay steps left = IsSettled steps steps left left

-- what begins is no value that a command writes
abbrev pub closing : Begun → Steps Outcome
closing begun = give (silently [])

module _ (steps : Steps Begun) (left : StepState)
    (settled : GoOneWay (and_then steps closing) left) where
  refusing : (why : Refusal) (end : StepState) → RunTo (refuses why) end steps left
      → RunTo (refuses why) end (and_then steps closing) left
  refusing why end goes =
      further (refuses why) end closing (refuses why) end (refl, refl) steps left goes

  giving : (begun : Begun) (end : StepState) → RunTo (gives begun) end steps left
      → RunTo (gives (silently [])) end (and_then steps closing) left
  giving begun end goes =
      further (gives (silently [])) end closing (gives begun) end (refl, refl) steps left goes

  pub one_refusal : (v w : Refusal) (m n : StepState) → RunTo (refuses v) m steps left
      → RunTo (refuses w) n steps left → v ≡ w
  one_refusal v w m n x y =
      let e : Err (Refused v) ≡ Err (Refused w) = one_point (refuses v) (refuses w) m n
      (and_then steps closing) (and_then steps closing) left left settled (refusing v m x)
      (refusing w n y) (Err (Refused v)) (Err (Refused w)) refl refl in cc

  pub no_other : (why : Refusal) (begun : Begun) (m n : StepState) → RunTo (refuses why) m steps left
      → RunTo (gives begun) n steps left → ⊥
  no_other why begun m n x y =
      let e : Err (Refused why) ≡ Ok Silent = one_point (refuses why) (gives (silently [])) m n
      (and_then steps closing) (and_then steps closing) left left settled (refusing why m x)
      (giving begun n y) (Err (Refused why)) (Ok Silent) refl refl in absurd cc
