-- What no line of a run does while it tells what it tells: it keeps to the configuration that it
-- adopted, to the file that it names, and a rewrite to each path at which something stands.
use Rattle.std.specs.Prelude.{◌≡◌, ◌≢◌, ◌++◌, ◌∷◌, ℕ, List, [], All, Contains, Option, None, Some}
use Rattle.kr_kms.specs.Calls.{Link}
use Rattle.kr_kms.specs.Exchanges.{Exchange}
use Rattle.kr_provider.specs.Envelopes.{Envelope}
use Rattle.kr_provider.specs.Publication.{Publication}
use Rattle.kr_provider.specs.Reading.{data_of, refused}
use Rattle.kr_provider.specs.declared.refusal.ValueNo.{ValueNo}
use Rattle.kr_store.specs.declared.rows.Row.{Row}
use Rattle.kr_rollout.specs.declared.line.Did.TheVariants as did
use Rattle.kr_rollout.specs.declared.opening.Entry.{Entry}
use Rattle.kr_rollout.specs.declared.opening.Opening.{Opening}
use Rattle.kr_script.specs.declared.script.Part.{Part}
use Rattle.kr_script.specs.declared.script.ScriptLine.TheVariants as line
use Rattle.kr_script.specs.declared.told.Told.{Told}
use Rattle.kr_script.specs.declared.told.Told.TheVariants as told
use Rattle.kr_workers.specs.declared.files.SettingsFile.{SettingsFile}
use Rattle.kr_workers.specs.declared.worker.Worker.{Worker}
use Rattle.kr_headline.specs.Fleets.{FleetHeadline, run_in}
use Rattle.kr_headline.specs.Headline.{IsOwn, IsTold, Run, Step, entries_of, own_entries, stands_at}
use Rattle.kr_headline.specs.Sources.{HasSource}
use Rattle.kr_headline.specs.Values.{Values, sealed_values}
use Rattle.kr_headline.specs.WrongPages.{HasAdopted}

module _ {T L D : Type 0} (values : Values) (link : L → Link) (step : L → Exchange → L → Type 0)
    (count : D → ℕ) (old new : List (Worker T L D)) (files : List SettingsFile) (o : Opening)
    (parts : List Part) (history : List Entry)
    (h : FleetHeadline values link step count old new files o parts history) where
  abbrev run : Run
  run = run_in values link step count old new files o parts history h

  -- the entries of one line
  abbrev pub entries_at : (worker at : ℕ) → List Entry
  entries_at worker at = own_entries h.has.headline.steps worker at

  pub record WrongSteps : Type 0 where
    -- a `put` seals by another configuration than the one that it adopted
    pub sealed_by_other : (worker at revision : ℕ) (path resource plain : List ℕ)
        (p : Publication) (e : Entry) (row : Row)
        → IsTold run worker at (line.Put resource path plain) (told.Put revision)
        → HasAdopted h.has.headline.steps worker at p → Contains (entries_at worker at) e
        → e.line.did ≡ did.Put path resource plain → e.row ≡ Some row
        → (values.Seals p resource path plain row.stored → ⊥) → ⊥
    -- a `get` reads by another one, or refuses: by its own, with no source that its worker had, the
    -- row that it found reads as what it tells
    pub read_by_other : (worker at revision : ℕ) (path bytes : List ℕ) (p : Publication)
        (e : Entry) (row : Row)
        → IsTold run worker at (line.Get path) (told.Got revision bytes)
        → HasAdopted h.has.headline.steps worker at p → Contains (entries_at worker at) e
        → e.line.did ≡ did.Fetch path → e.row ≡ Some row
        → ((envelope : Envelope) → HasSource (h.heard worker) envelope p row
        → values.Reads envelope p row (data_of bytes) → ⊥) → ⊥
    pub refused_by_other : (worker at : ℕ) (path : List ℕ) (why : ValueNo) (p : Publication)
        (e : Entry) (row : Row) → IsTold run worker at (line.Get path) (told.Value why)
        → HasAdopted h.has.headline.steps worker at p → Contains (entries_at worker at) e
        → e.line.did ≡ did.Fetch path → e.row ≡ Some row
        → ((envelope : Envelope) → HasSource (h.heard worker) envelope p row
        → values.Reads envelope p row (refused why) → ⊥) → ⊥
    -- a `reload` or a `join` brings other settings than those of the file that it names, whatever
    -- it tells
    pub reloads_other : (worker at replica named : ℕ) (file : List ℕ) (p : Publication)
        (expect : Option ℕ) (e : Entry) (reply : Told)
        → IsTold run worker at (line.Reload replica file) reply → Contains (entries_at worker at) e
        → e.line.did ≡ did.Reload named p expect → run.settings_in file ≢ Some p.rows → ⊥
    pub joins_other : (worker at replica named : ℕ) (file : List ℕ) (p : Publication) (e : Entry)
        (reply : Told) → IsTold run worker at (line.Join replica file) reply
        → Contains (entries_at worker at) e → e.line.did ≡ did.Join named p
        → run.settings_in file ≢ Some p.rows → ⊥
    -- a rewrite that ended passes by a path at which something stood before each of its steps: none
    -- of these found its row
    pub passed_by : (worker at rewritten fresh changed left : ℕ) (path : List ℕ)
        → IsTold run worker at line.Rewrite (told.Rewritten rewritten fresh changed left)
        → path ≢ [] → ((front : List Step) (taken : Step) (rest : List Step)
        → h.has.headline.steps ≡ front ++ taken ∷ rest → IsOwn worker at taken
        → stands_at run path (entries_of front) ≢ None)
        → All (λ e. (row : Row) → e.row ≡ Some row → row.path ≢ path) (entries_at worker at) → ⊥

-- so it is with each run of workers
abbrev pub EachStepIsWrong : (T : Type 0) → {L D : Type 0} → (L → Link)
    → (L → Exchange → L → Type 0) → (D → ℕ) → Type 0
EachStepIsWrong T {L} {D} link step count = (old new : List (Worker T L D))
    (files : List SettingsFile) (o : Opening) (parts : List Part) (history : List Entry)
    → (h : FleetHeadline sealed_values link step count old new files o parts history)
    → WrongSteps sealed_values link step count old new files o parts history h
