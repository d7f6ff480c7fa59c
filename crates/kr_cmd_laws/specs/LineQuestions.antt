-- What plugins see of the lines of a fleet's workers.
use Rattle.std.specs.Prelude.{◌≡◌, ◌⊎◌, ◌<◌, ◌≤◌, ℕ, List, [], ◌∷◌, ◌++◌, length, All, Contains, Option, Some}
use Rattle.std.specs.Io.KnownBytes.{Consumes}
use Rattle.kr_kms.specs.Calls.{Link}
use Rattle.kr_kms.specs.Exchanges.{Exchange, StatusCall, UnwrapCall, WrapCall}
use Rattle.kr_store.specs.declared.rows.Row.{Row}
use Rattle.kr_rollout.specs.Callers.{found_by}
use Rattle.kr_rollout.specs.declared.opening.Entry.{Entry}
use Rattle.kr_rollout.specs.declared.opening.Opening.{Opening}
use Rattle.kr_script.specs.declared.script.Part.{Part}
use Rattle.kr_workers.specs.Histories.{IsOneHistory}
use Rattle.kr_workers.specs.Runs.{IsDone, LineDone}
use Rattle.kr_workers.specs.ScriptLines.{Workplace}
use Rattle.kr_workers.specs.declared.files.SettingsFile.{SettingsFile}
use Rattle.kr_workers.specs.declared.worker.Worker as fleet_worker
use Rattle.kr_cmd_laws.specs.PluginLaws.{IsQuestion}

-- ---- which values a line may ask by

-- the value is that of a row which one of these entries found
pub record IsFoundIn (part : List Entry) (value : List ℕ) : Type 0 where
  pub entry : Entry
  pub row : Row
  pub among : Contains part entry
  pub found : found_by entry.line.gave entry.row ≡ Some row
  pub is : value ≡ row.stored

-- Each question of the line is for a status; to wrap 32 bytes; or to unwrap a source that stands in
-- a value which the line's own entries of the history found, under that value's key id and
-- annotations. So plugins are never told what an object holds, its path or resource, or another
-- key, and nothing of rows that the line didn't find
abbrev pub AsksQuestions : LineDone → Type 0
AsksQuestions done = All (IsQuestion (IsFoundIn done.part)) done.exchanges

-- ---- what was to be wrapped

-- all bytes that plugins were to wrap, one behind another
abbrev pub wrapped_in : List Exchange → List ℕ
wrapped_in [] = []
wrapped_in (StatusCall name answer ∷ exchanges) = wrapped_in exchanges
wrapped_in (WrapCall name plain answer ∷ exchanges) = plain ++ wrapped_in exchanges
wrapped_in (UnwrapCall key answer ∷ exchanges) = wrapped_in exchanges

-- nothing was to be wrapped; or just what was drawn meanwhile, in its order. At last one seed may
-- have been drawn for which there was no memory
abbrev pub WrapsDrawn : {D : Type 0} → (D → Option (List ℕ)) → (dice : D) → List Exchange
    → (after : D) → Type 0
WrapsDrawn left dice exchanges after = (wrapped_in exchanges ≡ []) ⊎ ((unused : List ℕ)
    × (length unused ≤ 32) × Consumes (left dice) (left after) (wrapped_in exchanges ++ unused))

module _ (T : Type 0) {L D : Type 0} (link : L → Link) (step : L → Exchange → L → Type 0)
    (left : D → Option (List ℕ)) (count : D → ℕ) where
  -- of workers whose lines stand in one history each line asks so
  abbrev pub LinesAsk : Type 0
  LinesAsk = (files : List SettingsFile) (history : List Entry) (o : Opening) (parts : List Part)
      (budgets : List ℕ) (old new : List (fleet_worker.Worker T L D))
      (one : IsOneHistory link step left count files history o parts budgets old new)
      (i : ℕ) (part : Part) (worker : fleet_worker.Worker T L D) (below : i < length parts)
      → All AsksQuestions (one.each i part worker below).run

module _ {L D : Type 0} (link : L → Link) (step : L → Exchange → L → Type 0)
    (left : D → Option (List ℕ)) (count : D → ℕ) where
  -- what a line gives plugins to wrap it drew itself
  abbrev pub LinesWrapDrawn : Type 0
  LinesWrapDrawn = (files : List SettingsFile) (replica : ℕ) (old new : Workplace L D)
      (done : LineDone) → IsDone link step left count files replica old done new
      → WrapsDrawn left old.dice done.exchanges new.dice
