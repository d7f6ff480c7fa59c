-- What follows from the headline.
use Rattle.std.specs.Prelude.{◌≡◌, ◌⊎◌, ℕ, false, List, ◌∷◌, ◌++◌, All, Some, IfSome, ⊤}
use Rattle.std.specs.List.{list_any}
use Rattle.kr_kms.specs.Cache.{AreOpenBy}
use Rattle.kr_kms.specs.Calls.{Link}
use Rattle.kr_kms.specs.Exchanges.{AgreesWith, Exchange}
use Rattle.kr_kms.specs.Opens.{Opens}
use Rattle.kr_provider.specs.Reading.{data_of, refused}
use Rattle.kr_provider.specs.declared.refusal.ValueNo.{ValueNo}
use Rattle.kr_provider.specs.Publication.{Publication, list_at}
use Rattle.kr_config.specs.Providers.{is_kms}
use Rattle.kr_store.specs.declared.rows.Row.{Row}
use Rattle.kr_rollout.specs.declared.line.Did.{Did}
use Rattle.kr_rollout.specs.declared.line.Did.TheVariants as did
use Rattle.kr_rollout.specs.declared.line.Gave.{Gave}
use Rattle.kr_rollout.specs.declared.line.Gave.TheVariants as gave
use Rattle.kr_rollout.specs.declared.opening.Entry.{Entry}
use Rattle.kr_rollout.specs.declared.opening.Opening.{Opening}
use Rattle.kr_history.specs.Honesty.{SeedsOpen}
use Rattle.kr_script.specs.declared.script.Part.{Part}
use Rattle.kr_script.specs.declared.script.ScriptLine.TheVariants as line
use Rattle.kr_script.specs.declared.told.Told.TheVariants as told
use Rattle.kr_workers.specs.declared.files.SettingsFile.{SettingsFile}
use Rattle.kr_workers.specs.declared.worker.Worker.{Worker}
use Rattle.kr_headline.specs.Fleets.{FleetHeadline, run_in}
use Rattle.kr_headline.specs.Headline.{Headline, IsOwn, IsTold, Run, Step}
use Rattle.kr_headline.specs.Values.{sealed_values}

-- some worker's `put` of these bytes under the path was done
pub record WasPut (run : Run) (path bytes : List ℕ) : Type 0 where
  pub worker : ℕ
  pub at : ℕ
  pub resource : List ℕ
  pub revision : ℕ
  pub is : IsTold run worker at (line.Put resource path bytes) (told.Put revision)

module _ (run : Run) where
  -- plugins unwrapped what they had wrapped, as far as it concerns what this line found at the
  -- path
  abbrev pub IsSupposed : Headline run → run.Truths → (path : List ℕ) → (worker at : ℕ) → Type 0
  IsSupposed h truth path worker at = (front : List Step) (step : Step) (rest : List Step)
      → h.steps ≡ front ++ step ∷ rest → IsOwn worker at step
      → step.entry.line.did ≡ did.Fetch path → (revision : ℕ)
      → step.entry.line.gave ≡ gave.Found revision
      → run.PluginsUnwrapped truth path worker at step.entry

  -- where plugins unwrapped what they had wrapped, bytes that are told were put by such a line, or
  -- stood there at the start
  abbrev pub GotIsPut : Headline run → Type 0
  GotIsPut h = (worker at revision : ℕ) (path bytes : List ℕ)
      → IsTold run worker at (line.Get path) (told.Got revision bytes)
      → (truth : run.Truths) → IsSupposed h truth path worker at
      → (run.read_at_start truth path ≡ Some (data_of bytes)) ⊎ WasPut run path bytes

  -- and a value that is refused stood there at the start and read so then: what the run wrote is
  -- never refused
  abbrev pub RefusedStood : Headline run → Type 0
  RefusedStood h = (worker at : ℕ) (path : List ℕ) (why : ValueNo)
      → IsTold run worker at (line.Get path) (told.Value why)
      → (truth : run.Truths) → IsSupposed h truth path worker at
      → run.read_at_start truth path ≡ Some (refused why)

-- by the configuration that the entry names, no plugin is listed for this resource
abbrev pub ListsNone : (resource : List ℕ) → Entry → Type 0
ListsNone resource e =
    (p : Publication) → e.published ≡ Some p → list_any is_kms (list_at p resource) ≡ false

-- so it is where the entry writes or finds a row of the path
abbrev pub UsesNoPlugin : (path : List ℕ) → Entry → Gave → Did → Type 0
UsesNoPlugin path e (gave.Written revision) (did.Put own resource plain) =
    own ≡ path → ListsNone resource e
UsesNoPlugin path e (gave.Written revision) (did.Replace own from) =
    own ≡ path → (old : Row) → e.replaced ≡ Some old → ListsNone old.resource e
UsesNoPlugin path e (gave.Found revision) (did.Fetch own) =
    own ≡ path → (row : Row) → e.row ≡ Some row → ListsNone row.resource e
UsesNoPlugin path e given done = ⊤

-- by this truth links are answered as plugins are supposed to answer, whatever they are asked; so
-- are plugins in memory by what their sources open to (the law `tables_agree` of kr_kms)
abbrev pub LinksAgree : {L : Type 0} → (L → Exchange → L → Type 0) → Opens → Type 0
LinksAgree {L} step opens = (old : L) (exchange : Exchange) (new : L) → step old exchange new
    → AgreesWith opens exchange

module _ (T : Type 0) {L D : Type 0} (link : L → Link) (step : L → Exchange → L → Type 0)
    (count : D → ℕ) where
  abbrev pub GotWasPut : Type 0
  GotWasPut = (old new : List (Worker T L D)) (files : List SettingsFile)
      (o : Opening) (parts : List Part) (history : List Entry)
      → (h : FleetHeadline sealed_values link step count old new files o parts history)
      → GotIsPut (run_in sealed_values link step count old new files o parts history h)
      h.has.headline

  abbrev pub RefusedStoodThere : Type 0
  RefusedStoodThere = (old new : List (Worker T L D)) (files : List SettingsFile)
      (o : Opening) (parts : List Part) (history : List Entry)
      → (h : FleetHeadline sealed_values link step count old new files o parts history)
      → RefusedStood (run_in sealed_values link step count old new files o parts history h)
      h.has.headline

  -- of a path that needs no plugin nothing has to be supposed, whatever plugins do elsewhere
  abbrev pub NothingSupposed : Type 0
  NothingSupposed = (old new : List (Worker T L D)) (files : List SettingsFile)
      (o : Opening) (parts : List Part) (history : List Entry)
      → (h : FleetHeadline sealed_values link step count old new files o parts history)
      → (path : List ℕ) → All (λ e. UsesNoPlugin path e e.line.gave e.line.did) history
      → (opens : Opens) (worker at : ℕ)
      → IsSupposed (run_in sealed_values link step count old new files o parts history h)
      h.has.headline opens path worker at

  -- nor more of any than that the seeds at the start open, and those that benches had kept, where
  -- each step of the links is answered as this truth has it
  abbrev pub SeedsAloneSupposed : Type 0
  SeedsAloneSupposed = (old new : List (Worker T L D)) (files : List SettingsFile) (o : Opening)
      (parts : List Part) (history : List Entry)
      → (h : FleetHeadline sealed_values link step count old new files o parts history)
      → (opens : Opens)
      → LinksAgree step opens → ((worker : ℕ) → AreOpenBy opens (h.heard worker).kept)
      → All (λ replica. IfSome replica (SeedsOpen opens)) o.replicas
      → (path : List ℕ) (worker at : ℕ)
      → IsSupposed (run_in sealed_values link step count old new files o parts history h)
      h.has.headline opens path worker at
