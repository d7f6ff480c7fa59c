-- What ties the headline of workers to their run: the history is legal to the last byte, and each
-- worker's lines stand in it with just the exchanges that the headline says were heard in each.
use Rattle.std.specs.Prelude.{◌≡◌, ℕ, List, Option, Some, map, slice_get, slice_index}
use Rattle.kr_kms.specs.Calls.{Link}
use Rattle.kr_kms.specs.Exchanges.{Exchange}
use Rattle.kr_rollout.specs.Histories.{IsLegal}
use Rattle.kr_rollout.specs.declared.opening.Entry.{Entry}
use Rattle.kr_rollout.specs.declared.opening.Opening.{Opening}
use Rattle.kr_script.specs.declared.script.Part.{Part}
use Rattle.kr_workers.specs.Histories.{StandsIn, first_place}
use Rattle.kr_workers.specs.Runs.{LineDone, exchanges_in}
use Rattle.kr_workers.specs.declared.files.SettingsFile.{SettingsFile}
use Rattle.kr_workers.specs.declared.worker.Worker.{Worker}
use Rattle.kr_headline.specs.Fleets.{FleetHeadline}
use Rattle.kr_headline.specs.Values.{sealed_values}

pub record IsTied {T L D : Type 0} (link : L → Link)
    (step : L → Exchange → L → Type 0)
    (left : D → Option (List ℕ)) (count : D → ℕ) (files : List SettingsFile) (o : Opening)
    (parts : List Part) (budgets : List ℕ) (history : List Entry) (old new : List (Worker T L D))
    (h : FleetHeadline sealed_values link step count old new files o parts history)
    : Type 0 where
  -- of each answer, row and verdict all that is said of a legal history
  pub legal : IsLegal o history
  -- so what the headline supposes of plugins is said of the very calls of the worker's lines
  pub stand : (worker : ℕ) (part : Part) (before after : Worker T L D)
      → slice_get parts worker ≡ Some part → slice_get old worker ≡ Some before
      → slice_get new worker ≡ Some after
      → (s : StandsIn link step left count files history part
      (first_place o worker (slice_index budgets worker) before.bench) after.told.0 after.bench)
      × ((h.heard worker).exchanges ≡ exchanges_in s.run)
      × (h.exchanges worker ≡ map (λ (done : LineDone). done.exchanges) s.run)
