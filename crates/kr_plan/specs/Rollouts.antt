-- Where a rollout stands, by the generations and the needs of a board.
use Rattle.std.specs.Prelude.{◌≡◌, ℕ, ◌<◌, ◌⊎◌, true, List, Contains, IsTrue}
use Rattle.std.specs.List.{list_any}
use Rattle.kr_config.specs.declared.class.Class.{Class}
use Rattle.kr_config.specs.Kept.{ConfigEntry}
use Rattle.kr_config.specs.Lists.{class_list}
use Rattle.kr_judge.specs.declared.need.Need.{Need}
use Rattle.kr_judge.specs.Boards.{GenerationState, is_replica_current}
use Rattle.kr_judge.specs.Lacks.{IsLiveIn}
use Rattle.kr_judge.specs.LiveFits.{AreFit}

-- at the class the settings give the list of the one or of the other
abbrev pub GivesEither : (one other : List ConfigEntry) → List ConfigEntry → Class → Type 0
GivesEither one other rows class =
    (class_list rows class ≡ class_list one class)
    ⊎ (class_list rows class ≡ class_list other class)

-- What a verdict in the midst of a rollout may rest on: what is stored and the live generations
-- fit; the replica is in; only current generations are held; and each of these gives at every class
-- the list of the one settings or of the other.
pub record IsBetween (one other : List ConfigEntry) (needs : List Need)
    (generations : List GenerationState)
    (replica : ℕ) : Type 0 where
  pub fit : AreFit (IsLiveIn generations) needs
  pub is_in : IsTrue (list_any (is_replica_current replica) generations)
  pub held : (own : GenerationState) → Contains generations own → 0 < own.holders
      → own.current ≡ true
  pub gives : (own : GenerationState) (class : Class) → Contains generations own
      → own.current ≡ true → GivesEither one other own.rows class
