-- The law of the verdict on one replica's new settings, over the replicas' settings alone.
use Rattle.std.specs.Prelude.{◌≡◌, ◌≢◌, ◌↔◌, ℕ, ◌<◌, List, length, slice_set, Option, Some}
use Rattle.std.specs.List.{slice_get}
use Rattle.kr_config.specs.Kept.{ConfigEntry}
use Rattle.kr_judge.specs.declared.need.Need.{Need}
use Rattle.kr_judge.specs.declared.verdict.Verdict.TheVariants.{Pass}
use Rattle.kr_judge.specs.Lacks.{LacksProvider, IsNeeded}
use Rattle.kr_judge.specs.Verdicts.{verdict_of}
use Rattle.kr_opening.specs.Starts.{opening_generations, AllFit}

-- the settings of another replica that is in
abbrev pub AreOfAnother : List (Option (List ConfigEntry)) → (replica : ℕ) → List ConfigEntry
    → Type 0
AreOfAnother replicas replica rows =
    (other : ℕ) × (other ≢ replica) × (slice_get replicas other ≡ Some (Some rows))

-- it refuses exactly the settings after which one replica would lack a provider; and where the
-- replicas fit, it passes exactly where they do with the new settings in the place of the replica's
pub record JudgesReplicas : Type 0 where
  pub refuses : (needs : List Need) (replicas : List (Option (List ConfigEntry))) (replica : ℕ)
      (rows : List ConfigEntry)
      → (verdict_of needs (opening_generations 0 replicas) replica rows ≢ Pass)
      ↔ LacksProvider (IsNeeded needs) (AreOfAnother replicas replica) rows
  pub passes : (needs : List Need) (replicas : List (Option (List ConfigEntry))) (replica : ℕ)
      (rows : List ConfigEntry) → AllFit replicas needs → replica < length replicas
      → (verdict_of needs (opening_generations 0 replicas) replica rows ≡ Pass)
      ↔ AllFit (slice_set replicas replica (Some rows)) needs
