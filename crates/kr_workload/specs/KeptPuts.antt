-- What the store of a load has of its puts.
use Rattle.std.specs.Prelude.{◌≡◌, ℕ, List, codes, map, Contains, Option, Some}
use Rattle.kr_kms.specs.Calls.{Link}
use Rattle.kr_kms.specs.Exchanges.{Exchange}
use Rattle.kr_provider.specs.Publication.{Publication}
use Rattle.kr_provider.specs.Sealing.{IsSealing}
use Rattle.kr_rollout.specs.Histories.{state_of}
use Rattle.kr_rollout.specs.declared.opening.Entry.{Entry}
use Rattle.kr_rollout.specs.declared.opening.Opening.{Opening}
use Rattle.kr_script.specs.declared.script.Part.{Part}
use Rattle.kr_script.specs.declared.told.Told.TheVariants as told
use Rattle.kr_store.specs.Rows.{log_row_at, put_of}
use Rattle.kr_store.specs.declared.format.Check.{Check}
use Rattle.kr_store.specs.declared.rows.LogRow.{LogRow}
use Rattle.kr_workers.specs.Sentences.{Replies}
use Rattle.kr_workers.specs.declared.files.SettingsFile.{SettingsFile}
use Rattle.kr_workers.specs.declared.worker.Worker.{Worker}
use Rattle.kr_workload.specs.LoadRuns.{IsLoadRun}
use Rattle.kr_workload.specs.Loads.{configurations, object_path, plain_of}
use Rattle.kr_workload.specs.Loads as load

-- the row with this revision puts the worker's object of this number: a sealing of its data by a
-- configuration of the load
pub record HasRow (seed size : ℕ) (rows : List LogRow) (worker number revision : ℕ)
    : Type 0 where
  pub stored : List ℕ
  pub check : Option Check
  pub there : log_row_at rows revision
      ≡ Some (put_of (object_path worker number) (codes "secrets") stored check)
  pub p : Publication
  pub of_load : Contains (map (λ file. file.1) (configurations seed)) p.rows
  pub sealing : IsSealing p (codes "secrets") (object_path worker number)
      (plain_of seed size worker number) stored

-- each put that was done has its row
abbrev pub PutsAreKept : (T : Type 0) → {L D : Type 0} → (L → Link)
    → (L → Exchange → L → Type 0)
    → (D → Option (List ℕ)) → (D → ℕ) → Type 0
PutsAreKept T {L} {D} link step left count = (seed size : ℕ) (files : List SettingsFile)
    (history : List Entry) (o : Opening) (parts : List Part) (budgets : List ℕ)
    (old new : List (Worker T L D))
    → IsLoadRun link step left count seed size files history o parts budgets old new
    → (worker at number revision : ℕ)
    → Replies parts new worker at (load.put_of seed size worker number) (told.Put revision)
    → HasRow seed size (state_of o history).rows worker number revision
