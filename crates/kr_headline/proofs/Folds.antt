-- The page's folds and its longer clauses, by names.
use Rattle.std.specs.Prelude.{◌≢◌, Contains, fold, map}
use Rattle.std.specs.Option.{option_map_or}
use Rattle.std.proofs.Common.{◌≡◌, ℕ, List, [], ◌∷◌, ◌++◌, Option, None, Some}
use Rattle.kr_provider.specs.Reading.{Reading, data_of}
use Rattle.kr_rewrite.specs.Drives.{path_of}
use Rattle.kr_rewrite.specs.declared.outcome.Step as met_row
use Rattle.kr_rollout.specs.declared.opening.Entry.{Entry}
use Rattle.kr_script.specs.declared.script.ScriptLine.{ScriptLine}
use Rattle.kr_script.specs.declared.told.Told.{Told}
use Rattle.kr_workers.specs.Shapes.{PartIs}
use Rattle.kr_headline.specs.Headline.{IsOwn, Object, Run, Step, entries_of, had_after, has_at, object_after, own_entries, latest_revision, stands_at}

abbrev pub object_from : (path : List ℕ) → Option Object → List Entry → Option Object
object_from path start front = fold
    (λ (now : Option Object) (e : Entry). object_after e.line.gave e.line.did path now) start front

abbrev pub had_from : (replica : ℕ) → Option ℕ → List Entry → Option ℕ
had_from replica start front = fold
    (λ (now : Option ℕ) (e : Entry). had_after e.line.gave e.line.did replica now) start front

abbrev pub revision_from : ℕ → List Entry → ℕ
revision_from start front =
    fold (λ (now : ℕ) (e : Entry). latest_revision e.line.gave now) start front

abbrev pub faults_from : ℕ → List Entry → ℕ
faults_from start front = fold (λ (now : ℕ) (e : Entry). e.line.faults) start front

-- the data that were put, or what was read there at the start
abbrev pub reading_of : Option (List ℕ) → (at_start : Option Reading) → Option Reading
reading_of those at_start = option_map_or (λ plain. Some (data_of plain)) those at_start

module _ (run : Run) where
  abbrev pub HasExpected : (replica : ℕ) → (expect : Option ℕ) → (front : List Entry) → Type 0
  HasExpected replica expect front =
      (number : ℕ) → expect ≡ Some number → has_at run replica front ≡ Some number

  module _ (steps : List Step) (worker at : ℕ) where
    -- something stood at the path before each of the line's steps
    abbrev pub StoodThere : (path : List ℕ) → Type 0
    StoodThere path = (front : List Step) (step : Step) (rest : List Step)
        → steps ≡ front ++ step ∷ rest → IsOwn worker at step
        → stands_at run path (entries_of front) ≢ None

    -- a rewrite met each such path
    abbrev pub MeetsAll : List met_row.Step → Type 0
    MeetsAll met =
        (path : List ℕ) → path ≢ [] → StoodThere path → Contains (map (path_of []) met) path

    abbrev pub HasSteps : ScriptLine → Told → Type 0
    HasSteps asked reply = PartIs (run.PluginFailed worker at) (run.SourceFailed worker at)
        (run.BreaksRule worker at) (run.KeysAreSame worker at) (run.KeyChanged worker at)
        run.NamesPlugin run.CannotBeSealed run.ReadBy (run.RewriteDone worker at StoodThere (own_entries steps worker at)) worker
        (run.replica_of worker) (own_entries steps worker at) run.settings_in asked reply
