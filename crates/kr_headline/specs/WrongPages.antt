-- What no run with the headline prints: each of these would contradict it.
use Rattle.std.specs.Prelude.{◌≡◌, ◌≢◌, ◌≤◌, ℕ, false, List, [], ◌∷◌, ◌++◌, length, All, Contains, None, Some, slice_get}
use Rattle.std.specs.Option.{option_map}
use Rattle.kr_base.specs.Faults.{Rose}
use Rattle.kr_kms.specs.Calls.{Link}
use Rattle.kr_kms.specs.Exchanges.{Exchange, asked_name, is_fault}
use Rattle.kr_kms.specs.declared.health.Field.{Field}
use Rattle.kr_provider.specs.Publication.{Publication}
use Rattle.kr_provider.specs.Reading.{data_of}
use Rattle.kr_store.specs.declared.rows.Row.{Row}
use Rattle.kr_judge.specs.declared.verdict.Verdict.{Verdict}
use Rattle.kr_rollout.specs.declared.line.Did.{Did}
use Rattle.kr_rollout.specs.declared.line.Did.TheVariants as did
use Rattle.kr_rollout.specs.declared.line.Gave.{Gave}
use Rattle.kr_rollout.specs.declared.line.Gave.TheVariants as gave
use Rattle.kr_rollout.specs.declared.opening.Entry.{Entry}
use Rattle.kr_history.specs.Contents.{deletes, last_change, puts}
use Rattle.kr_script.specs.declared.script.ScriptLine.{ScriptLine}
use Rattle.kr_script.specs.declared.script.ScriptLine.TheVariants as line
use Rattle.kr_script.specs.declared.told.Told.{Told}
use Rattle.kr_script.specs.declared.told.Told.TheVariants as told
use Rattle.kr_rollout.specs.declared.opening.Opening.{Opening}
use Rattle.kr_script.specs.declared.script.Part.{Part}
use Rattle.kr_workers.specs.Configurations.{IsFresh}
use Rattle.kr_workers.specs.declared.files.SettingsFile.{SettingsFile}
use Rattle.kr_workers.specs.declared.worker.Worker.{Worker}
use Rattle.kr_headline.specs.Consequences.{IsSupposed, WasPut}
use Rattle.kr_headline.specs.Fleets.{FleetHeadline, run_in}
use Rattle.kr_headline.specs.Headline.{Headline, IsOwn, IsTold, Object, Run, Step, entries_of, has_at, own_entries, stands_at, store_faults}
use Rattle.kr_headline.specs.Outside.{HasBroken, HasOtherKey, HaveSeedKeys}
use Rattle.kr_headline.specs.Values.{sealed_values}

-- an entry that did this and was answered so, after this front
pub record StandsInRun (run : Run) (front : List Entry) (done : Did) (given : Gave) : Type 0 where
  pub entry : Entry
  pub rest : List Entry
  pub there : run.history ≡ front ++ entry ∷ rest
  pub did_is : entry.line.did ≡ done
  pub gave_is : entry.line.gave ≡ given

-- by these steps the worker's line at this place has adopted this configuration
pub record HasAdopted (steps : List Step) (worker at : ℕ) (p : Publication) : Type 0 where
  pub entry : Entry
  pub number : ℕ
  pub own : Contains (own_entries steps worker at) entry
  pub gave_is : entry.line.gave ≡ gave.Adopted number
  pub adopted : entry.published ≡ Some p

module _ (run : Run) (h : Headline run) where
  pub record WrongPages : Type 0 where
    -- the sentence itself: a `get` tells other bytes than stand there as they were put last, though
    -- plugins unwrapped what they had wrapped
    pub got_other : (worker at revision : ℕ) (path bytes other : List ℕ) (truth : run.Truths)
        → IsTold run worker at (line.Get path) (told.Got revision bytes)
        → ((front : List Step) (fetch : Step) (rest : List Step)
        → h.steps ≡ front ++ fetch ∷ rest → IsOwn worker at fetch
        → fetch.entry.line.did ≡ did.Fetch path
        → run.PluginsUnwrapped truth path worker at fetch.entry
        × (option_map (λ (it : Object). it.data_put) (stands_at run path (entries_of front))
        ≡ Some (Some other))) → other ≢ bytes → ⊥
    -- it tells bytes that no line put there, and that didn't read there at the start either
    pub got_unwritten : (worker at revision : ℕ) (path bytes : List ℕ) (truth : run.Truths)
        → IsTold run worker at (line.Get path) (told.Got revision bytes)
        → IsSupposed run h truth path worker at
        → run.read_at_start truth path ≢ Some (data_of bytes)
        → (WasPut run path bytes → ⊥) → ⊥
    -- it tells bytes that were put before the last write: others were put behind them
    pub got_older : (worker at revision : ℕ) (path bytes last : List ℕ) (truth : run.Truths)
        → IsTold run worker at (line.Get path) (told.Got revision bytes)
        → ((front : List Step) (fetch : Step) (rest : List Step)
        → h.steps ≡ front ++ fetch ∷ rest → IsOwn worker at fetch
        → fetch.entry.line.did ≡ did.Fetch path
        → run.PluginsUnwrapped truth path worker at fetch.entry
        × (last_change (entries_of front) path ≡ Some (puts last))) → last ≢ bytes → ⊥
    -- it tells bytes where the path was deleted last, whatever plugins did
    pub got_deleted : (worker at revision : ℕ) (path bytes : List ℕ)
        → IsTold run worker at (line.Get path) (told.Got revision bytes)
        → ((front : List Step) (fetch : Step) (rest : List Step)
        → h.steps ≡ front ++ fetch ∷ rest → IsOwn worker at fetch
        → last_change (entries_of front) path ≡ Some deletes) → ⊥
    -- a path at which nothing stands is found, or one at which something stands isn't: so a delete
    -- takes its object away, and a put sets it
    pub found_nothing : (front : List Entry) (path : List ℕ) (revision : ℕ)
        → StandsInRun run front (did.Fetch path) (gave.Found revision)
        → stands_at run path front ≡ None → ⊥
    pub missed : (front : List Entry) (path : List ℕ)
        → StandsInRun run front (did.Fetch path) gave.Absent → stands_at run path front ≢ None → ⊥
    -- another revision is found than that of what stands there
    pub other_revision : (front : List Entry) (path : List ℕ) (revision : ℕ) (object : Object)
        → StandsInRun run front (did.Fetch path) (gave.Found revision)
        → stands_at run path front ≡ Some object → object.revision ≢ revision → ⊥
    -- a write stands twice
    pub written_twice : (front mid rest : List Entry) (e again : Entry) (revision : ℕ)
        → run.history ≡ front ++ e ∷ (mid ++ again ∷ rest) → e.line.gave ≡ gave.Written revision
        → again.line.gave ≡ gave.Written revision → ⊥
    -- what was written was done for a `put` that tells a fault, a full store, or anything else
    pub wrote_untold : (step : Step) (path resource plain : List ℕ) (revision : ℕ) (reply : Told)
        → Contains h.steps step → step.entry.line.did ≡ did.Put path resource plain
        → step.entry.line.gave ≡ gave.Written revision
        → IsTold run step.entry.line.seat step.at (line.Put resource path plain) reply
        → reply ≢ told.Put revision → ⊥
    -- a replica leaves at another line than `leave`
    pub left_elsewhere : (step : Step) (replica number : ℕ) (asked : ScriptLine) (reply : Told)
        → Contains h.steps step → step.entry.line.did ≡ did.Leave replica
        → step.entry.line.gave ≡ gave.Departed number
        → IsTold run step.entry.line.seat step.at asked reply
        → asked ≢ line.Leave replica → ⊥
    -- a put has other steps than an Adopt, one Put and a LetGo
    pub put_twice : (worker at : ℕ) (path resource plain : List ℕ) (revision : ℕ)
        → IsTold run worker at (line.Put resource path plain) (told.Put revision)
        → length (own_entries h.steps worker at) ≢ 3 → ⊥
    -- a replica that is in is gone, or another configuration is adopted than it has
    pub gone_in : (front : List Entry) (replica : ℕ)
        → StandsInRun run front (did.Adopt replica) (gave.Gone replica)
        → has_at run replica front ≢ None → ⊥
    pub other_adopted : (front : List Entry) (replica number : ℕ)
        → StandsInRun run front (did.Adopt replica) (gave.Adopted number)
        → has_at run replica front ≢ Some number → ⊥
    -- the store is full with room left
    pub full_with_room : (front : List Entry) (path resource plain : List ℕ) (needed : ℕ)
        → StandsInRun run front (did.Put path resource plain) (gave.StoreFull needed)
        → needed ≤ run.limit → ⊥
    -- or for fewer bytes than it says
    pub full_for_less : (front : List Entry) (path resource plain : List ℕ) (needed : ℕ)
        → (s : StandsInRun run front (did.Put path resource plain) (gave.StoreFull needed))
        → (run.NeedsBytes front s.entry needed → ⊥) → ⊥
    -- the store failed though its count didn't rise
    pub no_store_failed : (front : List Entry) (done : Did)
        → (s : StandsInRun run front done gave.StoreFailed)
        → (Rose (store_faults run front) s.entry.line.faults → ⊥) → ⊥
    -- a `get` or a `put` tells a fault that no count bears out while the line was done, or a
    -- `refresh` that a healthy plugin is unhealthy
    pub no_plugin_failed : (worker at : ℕ) (path name : List ℕ)
        → IsTold run worker at (line.Get path) (told.FaultPlugin name)
        → (run.PluginFailed worker at name → ⊥) → ⊥
    pub no_source_failed : (worker at seat : ℕ) (path resource plain : List ℕ)
        → IsTold run worker at (line.Put resource path plain) (told.FaultDice seat)
        → (run.SourceFailed worker at → ⊥) → ⊥
    pub was_healthy : (worker at : ℕ) (name : List ℕ) (field : Field) (text : List ℕ)
        → IsTold run worker at line.Refresh (told.Unhealthy name field text)
        → (run.BreaksRule worker at name field text → ⊥) → ⊥
    -- a configuration is taken up that leaves something unreadable, or refused though it fits
    pub taken_up : (front : List Entry) (replica number : ℕ) (p : Publication)
        → StandsInRun run front (did.Reload replica p None) (gave.Reloaded number)
        → (run.WouldStayReadable front (did.Reload replica p None) → ⊥) → ⊥
    pub refused_fit : (front : List Entry) (replica : ℕ) (p : Publication) (verdict : Verdict)
        → StandsInRun run front (did.Reload replica p None) (gave.Refused verdict)
        → run.WouldStayReadable front (did.Reload replica p None) → ⊥
    -- what is taken up has another number than the next
    pub old_number : (front : List Entry) (replica number : ℕ) (p : Publication)
        → StandsInRun run front (did.Reload replica p None) (gave.Reloaded number)
        → number ≢ run.configurations_after front → ⊥
    pub joined_old_number : (front : List Entry) (replica number : ℕ) (p : Publication)
        → StandsInRun run front (did.Join replica p) (gave.Joined number)
        → number ≢ run.configurations_after front → ⊥
    -- a refresh finds that its replica moved to the number that it holds, or tells that nothing has
    -- changed, though of what it adopted the plugins haven't told the same keys
    pub moved_to_own : (front : List Entry) (replica number : ℕ) (p : Publication)
        → StandsInRun run front (did.Reload replica p (Some number)) (gave.Moved number) → ⊥
    pub unchanged_other : (worker at : ℕ) → IsTold run worker at line.Refresh told.Unchanged
        → ((p : Publication) → HasAdopted h.steps worker at p
        → run.KeysAreSame worker at p → ⊥) → ⊥
    -- a `get` that lacked memory holds on to what it adopted
    pub kept_hold : (worker at number : ℕ) (path : List ℕ) (e : Entry)
        → IsTold run worker at (line.Get path) told.Memory
        → own_entries h.steps worker at ≡ e ∷ [] → e.line.gave ≡ gave.Adopted number → ⊥
    -- a `leave` tells want of memory, a `refresh` a refusal
    pub leave_memory : (worker at replica : ℕ)
        → IsTold run worker at (line.Leave replica) told.Memory → ⊥
    pub refresh_refused : (worker at : ℕ) (verdict : Verdict)
        → IsTold run worker at line.Refresh (told.Refused verdict) → ⊥

  -- of a rewrite, by the second page
  pub record WrongRewrites : Type 0 where
    -- it counts what it didn't write
    pub counted_unwritten : (worker at rewritten fresh changed left : ℕ)
        → IsTold run worker at line.Rewrite (told.Rewritten rewritten fresh changed left)
        → All (λ e. (revision : ℕ) → e.line.gave ≢ gave.Written revision)
        (own_entries h.steps worker at) → rewritten ≢ 0 → ⊥
    -- it counts stale rows as fresh
    pub counted_stale : (worker at rewritten fresh changed left : ℕ)
        → IsTold run worker at line.Rewrite (told.Rewritten rewritten fresh changed left)
        → All (λ e. (p : Publication) (row : Row) → e.published ≡ Some p → e.row ≡ Some row
        → IsFresh p row → ⊥) (own_entries h.steps worker at) → fresh ≢ 0 → ⊥
    -- it tells a `get`'s reply
    pub rewrite_got : (worker at revision : ℕ) (bytes : List ℕ)
        → IsTold run worker at line.Rewrite (told.Got revision bytes) → ⊥

-- of faults and keys, by the exchanges of the line itself
module _ {T L D : Type 0} (link : L → Link) (step : L → Exchange → L → Type 0) (count : D → ℕ)
    (old new : List (Worker T L D)) (files : List SettingsFile) (o : Opening) (parts : List Part)
    (history : List Entry)
    (h : FleetHeadline sealed_values link step count old new files o parts history) where
  -- what was told of a line of this run
  abbrev pub WasTold : (worker at : ℕ) → ScriptLine → Told → Type 0
  WasTold worker at asked reply = IsTold (run_in sealed_values link step count old new files o parts
      history h) worker at asked reply

  -- these are the exchanges of the line
  abbrev pub AreOfLine : (worker at : ℕ) → List Exchange → Type 0
  AreOfLine worker at exchanges = slice_get (h.exchanges worker) at ≡ Some exchanges

  pub record WrongFaults : Type 0 where
    -- a plugin's fault is told of a line among whose exchanges none bears it out: in it the plugin
    -- answered each time that it was asked. Which of two neighbours that ask alike made the failed
    -- one, the ties say
    pub fault_elsewhere : (worker at : ℕ) (asked : ScriptLine) (name : List ℕ)
        → WasTold worker at asked (told.FaultPlugin name)
        → ((exchanges : List Exchange) → AreOfLine worker at exchanges
        → All (λ exchange. asked_name exchange ≡ name → is_fault exchange ≡ false) exchanges) → ⊥
    -- a `put` or a `delete` asks a plugin, or a `get` asks twice
    pub put_asked : (worker at : ℕ) (resource path plain : List ℕ) (exchanges : List Exchange)
        (reply : Told) → WasTold worker at (line.Put resource path plain) reply
        → AreOfLine worker at exchanges → exchanges ≢ [] → ⊥
    pub got_twice : (worker at : ℕ) (path : List ℕ) (exchanges : List Exchange) (reply : Told)
        → WasTold worker at (line.Get path) reply → AreOfLine worker at exchanges
        → 2 ≤ length exchanges → ⊥
    -- a plugin is unhealthy, though no status that it told in the line breaks that rule
    pub unhealthy_elsewhere : (worker at : ℕ) (asked : ScriptLine) (name : List ℕ) (field : Field)
        (text : List ℕ) → WasTold worker at asked (told.Unhealthy name field text)
        → ((exchanges : List Exchange) → AreOfLine worker at exchanges
        → HasBroken exchanges name field text → ⊥) → ⊥
    -- a refresh publishes anew, though no plugin of what it adopted told in the line another key
    -- than that of its seed
    pub refreshed_same : (worker at number : ℕ)
        → WasTold worker at line.Refresh (told.Refreshed number)
        → ((p : Publication) (exchanges : List Exchange)
        → HasAdopted h.has.headline.steps worker at p → AreOfLine worker at exchanges
        → HasOtherKey exchanges p.seeds → ⊥) → ⊥
    -- or tells that nothing has changed, though one of these told another, or none
    pub unchanged_though : (worker at : ℕ) → WasTold worker at line.Refresh told.Unchanged
        → ((p : Publication) (exchanges : List Exchange)
        → HasAdopted h.has.headline.steps worker at p → AreOfLine worker at exchanges
        → HaveSeedKeys exchanges p.seeds → ⊥) → ⊥

-- so it is with each run of workers
abbrev pub EachIsWrong : (T : Type 0) → {L D : Type 0} → (L → Link) → (L → Exchange → L → Type 0)
    → (D → ℕ) → Type 0
EachIsWrong T {L} {D} link step count = (old new : List (Worker T L D))
    (files : List SettingsFile) (o : Opening) (parts : List Part) (history : List Entry)
    → (h : FleetHeadline sealed_values link step count old new files o parts history)
    → WrongPages (run_in sealed_values link step count old new files o parts history h)
    h.has.headline
    × WrongRewrites (run_in sealed_values link step count old new files o parts history h)
    h.has.headline
    × WrongFaults link step count old new files o parts history h
