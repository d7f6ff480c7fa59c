-- The cores that a case starts.
use Rattle.std.specs.Prelude.{◌≡◌, [], ◌∷◌, length}
use Rattle.kr_rollout.specs.Cores.{CoreState}
use Rattle.test_fleet_calls.specs.Desks.{one_name}
use Rattle.test_fleet_calls.specs.declared.opening.Budget.{Budget}

-- a new core with two replicas and two seats, with this budget
pub record IsCore (budget : Budget) (core : CoreState) : Type 0 where
  pub names : core.opening.names ≡ one_name
  pub replicas_are : length core.opening.replicas ≡ 2
  pub reloads_are : core.opening.reloads ≡ budget.reloads ∷ budget.reloads ∷ []
  pub history : core.history ≡ []
  pub room_is : core.room ≡ budget.room
