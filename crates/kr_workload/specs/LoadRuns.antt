-- The workers of a load, whose lines stand in one history.
use Rattle.std.specs.Prelude.{◌≡◌, ℕ, List, [], ◌∷◌, map, Option, Some}
use Rattle.kr_config.specs.Kept.{ConfigEntry}
use Rattle.kr_config.specs.declared.who.Who.TheVariants.{Identity}
use Rattle.kr_kms.specs.Calls.{Link}
use Rattle.kr_kms.specs.Exchanges.{Exchange}
use Rattle.kr_opening.specs.Replicas.{settings_of}
use Rattle.kr_rollout.specs.declared.opening.Entry.{Entry}
use Rattle.kr_rollout.specs.declared.opening.Opening.{Opening}
use Rattle.kr_script.specs.Fleets.{worker_of}
use Rattle.kr_script.specs.declared.script.Part.{Part}
use Rattle.kr_workers.specs.Histories.{IsOneHistory}
use Rattle.kr_workers.specs.declared.files.SettingsFile.{SettingsFile}
use Rattle.kr_workers.specs.declared.worker.Worker.{Worker}
use Rattle.kr_workload.specs.Loads.{configurations, g1, load_fleet, named_configuration, of_secrets}

-- what both replicas open with
abbrev pub opening_rows : (seed : ℕ) → List ConfigEntry
opening_rows seed = of_secrets (g1 seed ∷ (Identity ∷ []))

module _ {T L D : Type 0} (link : L → Link) (step : L → Exchange → L → Type 0)
    (left : D → Option (List ℕ))
    (count : D → ℕ) where
  -- they did the lines of the load's fleet, which opened with its configurations
  pub record IsLoadRun (seed size : ℕ) (files : List SettingsFile) (history : List Entry)
      (o : Opening) (parts : List Part) (budgets : List ℕ) (old new : List (Worker T L D))
      : Type 0 where
    pub parts_are : map worker_of parts ≡ (load_fleet seed size).workers
    pub files_are : map named_configuration files ≡ configurations seed
    pub opens : settings_of o.replicas
        ≡ Some (opening_rows seed) ∷ (Some (opening_rows seed) ∷ [])
    pub one : IsOneHistory link step left count files history o parts budgets old new
