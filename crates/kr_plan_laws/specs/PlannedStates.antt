-- States in the midst of a planned rollout.
use Rattle.std.specs.Prelude.{◌≡◌, ℕ, List, Contains, Some, IsSome}
use Rattle.std.specs.List.{slice_get}
use Rattle.std.specs.Option.{option_map}
use Rattle.kr_config.specs.declared.class.Class.{Class}
use Rattle.kr_config.specs.Kept.{ConfigEntry}
use Rattle.kr_plan.specs.Rollouts.{GivesEither}
use Rattle.kr_opening.specs.declared.generation.Generation.{Generation}
use Rattle.kr_rollout.specs.Entries.{published_at}
use Rattle.kr_rollout.specs.States.{State, current_of, held_by}

-- the replica is in; no seat holds a generation that isn't its replica's current one; and each
-- current generation gives at every class the list of the one settings or of the other
pub record IsMidway (one other : List ConfigEntry) (st : State) (replica : ℕ) : Type 0 where
  pub is_in : IsSome (current_of st replica)
  pub held : (seat number : ℕ) (own : Generation) → held_by st seat ≡ Some number
      → slice_get st.generations number ≡ Some own → current_of st own.replica ≡ Some number
  pub gives : (number : ℕ) (rows : List ConfigEntry) (class : Class)
      → Contains st.current (Some number)
      → option_map (λ p. p.rows) (published_at st.generations (Some number)) ≡ Some rows
      → GivesEither one other rows class
