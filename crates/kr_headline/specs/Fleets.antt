-- A fleet's run, as the headline sees it: by the opening that its workers began with, its history,
-- and what is known of the outside. What stored values are is a parameter (page Values), so this
-- page reaches no cipher.
use Rattle.std.specs.Prelude.{◌≡◌, ◌≢◌, ◌⊎◌, ◌≤◌, ◌+◌, ℕ, List, [], ◌∷◌, ◌++◌, flat_map, length, map, get_or, slice_get, All, Contains, Option, None, Some, IfSome, ⊤}
use Rattle.std.specs.Option.{option_map}
use Rattle.kr_base.specs.Faults.{Rose}
use Rattle.kr_base.specs.Walks.{Walk}
use Rattle.kr_config.specs.Kept.{ConfigEntry as setting, plugins_in}
use Rattle.kr_config.specs.Lists.{list_of}
use Rattle.kr_config.specs.declared.who.Who.{Who}
use Rattle.kr_kms.specs.Calls.{Link}
use Rattle.kr_kms.specs.Health.{HasBreach}
use Rattle.kr_kms.specs.Exchanges.{Exchange}
use Rattle.kr_kms.specs.Seeds.{IsSeedRow}
use Rattle.kr_kms.specs.Opens.{Opens}
use Rattle.kr_kms.specs.declared.health.Field.{Field}
use Rattle.kr_provider.specs.AskedLinks.{Among, AskedOnly, FaultRose, HasLinkWith}
use Rattle.kr_provider.specs.BenchState.{BenchState}
use Rattle.kr_provider.specs.Envelopes.{Envelope}
use Rattle.kr_provider.specs.Names.{names_of}
use Rattle.kr_provider.specs.Publication.{Publication}
use Rattle.kr_provider.specs.Readers.{reader_in}
use Rattle.kr_provider.specs.Reading.{Reading, data_of}
use Rattle.kr_store.specs.Rows.{live}
use Rattle.kr_store.specs.declared.format.Format.{Format}
use Rattle.kr_store.specs.declared.rows.Row.{Row}
use Rattle.kr_rollout.specs.Entries.{entry_of, published_at}
use Rattle.kr_rollout.specs.Fits.{IsFit}
use Rattle.kr_rollout.specs.Histories.{state_of}
use Rattle.kr_rollout.specs.Judgements.{judged_state}
use Rattle.kr_rollout.specs.Openings.{first_of, start_of}
use Rattle.kr_rollout.specs.States.{IsLive, State, current_of, held_by}
use Rattle.kr_rollout.specs.Steps.{HidesNoFault, after}
use Rattle.kr_rollout.specs.declared.line.Did.{Did}
use Rattle.kr_rollout.specs.declared.line.Did.TheVariants as did
use Rattle.kr_rollout.specs.declared.line.Gave.{Gave}
use Rattle.kr_rollout.specs.declared.line.Gave.TheVariants as gave
use Rattle.kr_rollout.specs.declared.opening.Entry.{Entry}
use Rattle.kr_rollout.specs.declared.opening.Opening.{Opening}
use Rattle.kr_history.specs.Contents.{last_change}
use Rattle.kr_history.specs.Honesty.{SeedsOpen, WriterOpens}
use Rattle.kr_fleet.specs.LoadCalls.{AreKeysSame, IsKeyChanged}
use Rattle.kr_script.specs.Fleets.{Worker, worker_of}
use Rattle.kr_script.specs.declared.script.Part.{Part}
use Rattle.kr_script.specs.declared.told.Told.{Told}
use Rattle.kr_rewrite.specs.Drives.{path_of}
use Rattle.kr_script.specs.declared.script.ScriptLine.{ScriptLine}
use Rattle.kr_workers.specs.Changes.{MayChange}
use Rattle.kr_workers.specs.Configurations.{CannotBeSealed, NamesPlugin, ReadBy}
use Rattle.kr_workers.specs.Files.{rows_at}
use Rattle.kr_workers.specs.Heard.{AgreesWithHeard, Heard, WasHeard, unheard}
use Rattle.kr_workers.specs.Plugins.{IsReplaced}
use Rattle.kr_workers.specs.RewriteParts.{RewritePart}
use Rattle.kr_workers.specs.declared.files.SettingsFile.{SettingsFile}
use Rattle.kr_workers.specs.declared.worker.Worker as fleet_worker
use Rattle.kr_headline.specs.Headline.{Headline, IsTold, Run, Step}
use Rattle.kr_headline.specs.Outside.{AsksOf, HasBroken, HasFailed, HasOtherKey, HaveSeedKeys}
use Rattle.kr_headline.specs.Sources.{HasSource}
use Rattle.kr_headline.specs.Values.{Values}

-- ---- rows that were read, and sealed anew

module _ (values : Values) where
  -- the row that the entry found reads so, by the configuration that was held, with this source,
  -- which the worker had that heard this
  pub record ReadsWith (heard : Heard) (envelope : Envelope) (e : Entry) (reading : Reading)
      : Type 0 where
    pub p : Publication
    pub row : Row
    pub held : e.published ≡ Some p
    pub found : e.row ≡ Some row
    pub is : values.Reads envelope p row reading
    pub source : HasSource heard envelope p row

  -- a row of the path was sealed anew: it read as these data, with a source that the worker had
  -- that heard this; and what stands in its place is a sealing of them, at its path and for its
  -- resource, with the check that a store of the format keeps beside it
  pub record Reseals (format : Format) (heard : Heard) (path : List ℕ) (e : Entry) : Type 0 where
    pub p : Publication
    pub old : Row
    pub new : Row
    pub plain : List ℕ
    pub envelope : Envelope
    pub held : e.published ≡ Some p
    pub replaced : e.replaced ≡ Some old
    pub written : e.row ≡ Some new
    pub path_is : old.path ≡ path
    pub stays : new.path ≡ path
    pub resource_is : new.resource ≡ old.resource
    pub reads : values.Reads envelope p old (data_of plain)
    pub source : HasSource heard envelope p old
    pub sealing : values.Seals p old.resource path plain new.stored
    pub check_is : new.check ≡ values.check_of format p old.resource

  -- a row was put: a sealing of these data at their path and for their resource, with its check
  pub record Seals (format : Format) (resource path plain : List ℕ) (e : Entry) : Type 0 where
    pub p : Publication
    pub row : Row
    pub held : e.published ≡ Some p
    pub written : e.row ≡ Some row
    pub path_is : row.path ≡ path
    pub resource_is : row.resource ≡ resource
    pub sealing : values.Seals p resource path plain row.stored
    pub check_is : row.check ≡ values.check_of format p resource

  -- What the line of an entry doesn't show: what its seat held before; the row and the
  -- configurations, which are those of the numbers that the line names; that no fault of the store
  -- is hidden; and what a put wrote, within the store's limit
  pub record Follows (o : Opening) (st : State) (e : Entry) : Type 0 where
    pub held : e.line.held ≡ held_by st e.line.seat
    pub named : e ≡ entry_of (after st e).rows (after st e).generations e.line
    pub faults : HidesNoFault e.line.gave st.count e.line.faults
    pub sealed : (path resource plain : List ℕ) (revision : ℕ)
        → e.line.did ≡ did.Put path resource plain → e.line.gave ≡ gave.Written revision
        → Seals o.format resource path plain e
    pub fits : (revision : ℕ) → e.line.gave ≡ gave.Written revision → (bytes : ℕ)
        × values.NeedsBytes o.format e.line.did st.rows e.published bytes × (bytes ≤ o.limit)

-- ---- what is supposed of plugins

-- this truth agrees with all that the workers' plugins answered in this run, and by it the seeds of
-- the configurations at the start open
abbrev pub AgreesWithAll : ((worker : ℕ) → Heard) → Opens → Opening → Type 0
AgreesWithAll heard opens o = ((worker : ℕ) → AgreesWithHeard opens (heard worker))
    × All (λ replica. IfSome replica (SeedsOpen opens)) o.replicas

-- there are none, or it does
abbrev pub AreKnown : ((worker : ℕ) → Heard) → Opens → Opening → Type 0
AreKnown heard opens o = (o.names ≡ []) ⊎ AgreesWithAll heard opens o

-- the seeds open of the configuration that a replica was given
abbrev pub BroughtOpens : Opens → Gave → Did → Type 0
BroughtOpens opens (gave.Reloaded generation) (did.Reload replica p expect) = SeedsOpen opens p
BroughtOpens opens (gave.Joined generation) (did.Join replica p) = SeedsOpen opens p
BroughtOpens opens given done = ⊤

-- each plugin that a configuration names has a seed in it, and each seed has 32 bytes
abbrev pub HasSeeds : Publication → Type 0
HasSeeds p = ((name : List ℕ) → Contains (plugins_in p.rows) name
    → Contains (map (λ row. row.name) p.seeds) name) × All IsSeedRow p.seeds

-- so it is with the configuration that a replica was given
abbrev pub BroughtSeeds : Gave → Did → Type 0
BroughtSeeds (gave.Reloaded generation) (did.Reload replica p expect) = HasSeeds p
BroughtSeeds (gave.Joined generation) (did.Join replica p) = HasSeeds p
BroughtSeeds given done = ⊤

-- the seed opens with which an entry sealed what it wrote at the path
abbrev pub SealedBy : Opens → (path : List ℕ) → Entry → Gave → Did → Type 0
SealedBy opens path e (gave.Written revision) (did.Put own resource plain) =
    own ≡ path → WriterOpens opens resource e
SealedBy opens path e (gave.Written revision) (did.Replace own from) =
    own ≡ path → (old : Row) → e.replaced ≡ Some old → WriterOpens opens old.resource e
SealedBy opens path e given done = ⊤

-- ---- the run

-- what is known of the outside while the workers worked
pub record FleetOutside : Type 1 where
  pub PluginFailed : (worker at : ℕ) → (name : List ℕ) → Type 0
  pub SourceFailed : (worker at : ℕ) → Type 0
  pub BreaksRule : (worker at : ℕ) → (name : List ℕ) → Field → (text : List ℕ) → Type 0
  pub KeysAreSame : (worker at : ℕ) → Publication → Type 0
  pub KeyChanged : (worker at : ℕ) → Publication → Type 0

module _ (values : Values) (heard : (worker : ℕ) → Heard) (o : Opening) (files : List SettingsFile)
    (workers : List Worker) (replies : List (List Told)) (history : List Entry) where
  -- how rows read at the start, by each truth; the source with which each `get` was read; and that
  -- each row that was sealed anew was read, with one that its worker had
  pub record Readings : Type 0 where
    pub at_start : Opens → (path : List ℕ) → Option Reading
    pub start_is : (opens : Opens) (path : List ℕ)
        → values.ReadsAtStart opens (first_of o) path (live o.rows path) (at_start opens path)
    pub envelope_of : (worker at : ℕ) → Envelope
    pub reseals : (front : List Entry) (e : Entry) (rest : List Entry) (path : List ℕ)
        → history ≡ front ++ e ∷ rest → IsReplaced path e
        → Reseals values o.format (heard e.line.seat) path e

  -- a row that was sealed anew was read with what its wrapped key opens to
  abbrev pub OpensOld : {path : List ℕ} → {e : Entry} → Opens
      → Reseals values o.format (heard e.line.seat) path e → Type 0
  OpensOld opens r = values.OpensTo opens r.envelope r.p r.old

  -- by this truth plugins unwrapped what they had wrapped, as far as it concerns what a `get` read
  -- at this path: the seeds with which rows of the path were sealed are what their sources open
  -- to, and so is that with which a row of the path was read, to seal it anew or for this `get`.
  -- That is asked of what was written there before the `get`, since the path was put or deleted
  -- last
  pub record Unwraps (readings : Readings) (opens : Opens) (path : List ℕ) (worker at : ℕ)
      (fetch : Entry) : Type 0 where
    pub sealed : (front : List Entry) (e : Entry) (since rest : List Entry)
        → history ≡ front ++ e ∷ (since ++ fetch ∷ rest) → last_change since path ≡ None
        → SealedBy opens path e e.line.gave e.line.did
    pub resealed : (front : List Entry) (e : Entry) (since rest : List Entry)
        → (is : history ≡ front ++ e ∷ (since ++ fetch ∷ rest)) → last_change since path ≡ None
        → (replaced : IsReplaced path e)
        → OpensOld opens (readings.reseals front e (since ++ fetch ∷ rest) path is replaced)
    pub read : (p : Publication) (row : Row) → fetch.published ≡ Some p → fetch.row ≡ Some row
        → values.OpensTo opens (readings.envelope_of worker at) p row

  -- the replica of each worker, and its lines
  abbrev pub replica_at : (worker : ℕ) → ℕ
  replica_at worker = get_or (map (λ (it : Worker). it.replica) workers) worker 0

  abbrev pub lines_at : (worker : ℕ) → List ScriptLine
  lines_at worker = get_or (map (λ (it : Worker). it.lines) workers) worker []

  -- what a rewrite did is its part, by the second page, with sources that its worker had; it met
  -- each path at which something stood before each of its steps
  abbrev pub run_of : FleetOutside → Readings → Run
  run_of outside readings = record {
    replica_of = replica_at;
    lines_of = lines_at;
    replies_of = λ worker. get_or replies worker [];
    history = history;
    stood_at_start = λ path. option_map (λ (row : Row). row.revision) (live o.rows path);
    revision_at_start = length o.rows;
    had_at_start = current_of (start_of o);
    store_faults_at_start = o.count;
    limit = o.limit;
    NeedsBytes = λ front e.
        values.NeedsBytes o.format e.line.did (state_of o front).rows e.published;
    settings_in = rows_at files;
    published_of = λ generation. published_at (state_of o history).generations (Some generation);
    configurations_after = λ front. length (state_of o front).generations;
    PluginFailed = outside.PluginFailed;
    SourceFailed = outside.SourceFailed;
    BreaksRule = outside.BreaksRule;
    KeysAreSame = outside.KeysAreSame;
    KeyChanged = outside.KeyChanged;
    NamesPlugin = NamesPlugin;
    CannotBeSealed = CannotBeSealed;
    ReadBy = ReadBy;
    RewriteDone = λ worker at StoodThere. RewritePart (values.IsFresh (HasSource (heard worker)))
        (values.IsStale (HasSource (heard worker))) (values.IsLeft (HasSource (heard worker)))
        (outside.PluginFailed worker at) (outside.SourceFailed worker at)
        (λ met. (path : List ℕ) → path ≢ [] → StoodThere path
        → Contains (map (path_of []) met) path) worker (replica_at worker);
    WouldStayReadable = λ front done. IsFit (judged_state done (state_of o front));
    Reads = λ worker at. ReadsWith values (heard worker) (readings.envelope_of worker at);
    Truths = Opens;
    read_at_start = readings.at_start;
    PluginsUnwrapped = λ opens path worker at e. AreKnown heard opens o
        ⊎ Unwraps readings opens path worker at e;
  }

  -- after each front of the history each live configuration lists a provider for each live row, the
  -- one whose prefix the row's value begins with; whether that opens the value is not said here
  abbrev pub StaysListed : Type 0
  StaysListed = (front rest : List Entry) (path : List ℕ) (row : Row) (rows : List setting)
      → history ≡ front ++ rest → live (state_of o front).rows path ≡ Some row
      → IsLive (state_of o front) rows
      → (who : Who) × (reader_in (list_of rows row.resource) row.stored ≡ Some who)

  -- The run has the headline, each entry follows on the state that those before it left, and what
  -- changed something was done for a line that tells it. Each truth that agrees with all that was
  -- heard opens the published seeds: so where there is one, plugins told what these open to. Where
  -- a plugin contradicted itself there is none, and only the ties say so
  pub record HasHeadline (outside : FleetOutside) : Type 0 where
    pub follows : (front : List Entry) (e : Entry) (rest : List Entry)
        → history ≡ front ++ e ∷ rest → Follows values o (state_of o front) e
    pub listed : StaysListed
    pub seeds : (opens : Opens) → AgreesWithAll heard opens o
        → All (λ (e : Entry). BroughtOpens opens e.line.gave e.line.did) history
    -- whatever plugins answered, a configuration has its seeds
    pub published : All (λ (e : Entry). BroughtSeeds e.line.gave e.line.did) history
    pub readings : Readings
    pub headline : Headline (run_of outside readings)
    pub made : All (λ (step : Step). (asked : ScriptLine) × (reply : Told)
        × IsTold (run_of outside readings) step.entry.line.seat step.at asked reply
        × MayChange (rows_at files) (replica_at step.entry.line.seat) asked reply step.entry)
        headline.steps

-- ---- the workers

-- the links and the random source of a worker: as they were, and after each of its lines. By just
-- the exchanges of a line, which are such as it asks, its links came to be those behind it. Each
-- stays the same plugin's, and no count of faults falls
pub record AreBenches {L D : Type 0} (link : L → Link) (step : L → Exchange → L → Type 0)
    (count : D → ℕ) (benches : List (List L × D)) (exchanges : List (List Exchange))
    (lines : List ScriptLine) (old new : BenchState L D) : Type 0 where
  pub many : length benches ≡ length lines + 1
  pub each : length exchanges ≡ length lines
  pub asks : (at : ℕ) (asked : ScriptLine) (its : List Exchange) → slice_get lines at ≡ Some asked
      → slice_get exchanges at ≡ Some its → AsksOf asked its
  pub first : slice_get benches 0 ≡ Some (old.links, old.dice)
  pub last : slice_get benches (length lines) ≡ Some (new.links, new.dice)
  pub stay : (at : ℕ) (before after : List L × D) (asked : List Exchange)
      → slice_get benches at ≡ Some before → slice_get exchanges at ≡ Some asked
      → slice_get benches (at + 1) ≡ Some after
      → AskedOnly link (names_of link before.0) before.0 after.0
      × Walk (Among step) before.0 asked after.0 × (count before.1 ≤ count after.1)

-- before and after the line at this place, and the exchanges between
pub record AtLine {L D : Type 0} (benches : List (List L × D)) (exchanges : List (List Exchange))
    (at : ℕ) (Has : (before : List L × D) → List Exchange → (after : List L × D) → Type 0)
    : Type 0 where
  pub before : List L × D
  pub asked : List Exchange
  pub after : List L × D
  pub before_is : slice_get benches at ≡ Some before
  pub asked_is : slice_get exchanges at ≡ Some asked
  pub after_is : slice_get benches (at + 1) ≡ Some after
  pub has : Has before asked after

module _ {L D : Type 0} (link : L → Link) (count : D → ℕ) where
  -- A count of faults rose while the line was done, and of a plugin by an exchange of the line that
  -- failed. A status that was told in the line breaks that rule; those that were told in it have
  -- the keys of the seeds, or one has another. Where the links tell their plugins' statuses, these
  -- are so too
  abbrev pub outside_of : (benches : (worker : ℕ) → List (List L × D))
      → (exchanges : (worker : ℕ) → List (List Exchange)) → FleetOutside
  outside_of benches exchanges = record {
    PluginFailed = λ worker at name. AtLine (benches worker) (exchanges worker) at
        (λ before asked after. FaultRose link name before.0 after.0 × HasFailed asked name);
    SourceFailed = λ worker at. AtLine (benches worker) (exchanges worker) at
        (λ before asked after. Rose (count before.1) (count after.1));
    BreaksRule = λ worker at name field text. AtLine (benches worker) (exchanges worker) at
        (λ before asked after. HasLinkWith link name (λ it. HasBreach it (Some (field, text)))
        before.0 × HasBroken asked name field text);
    KeysAreSame = λ worker at p. AtLine (benches worker) (exchanges worker) at
        (λ before asked after. AreKeysSame link before.0 p.seeds × HaveSeedKeys asked p.seeds);
    KeyChanged = λ worker at p. AtLine (benches worker) (exchanges worker) at
        (λ before asked after. IsKeyChanged link before.0 p.seeds × HasOtherKey asked p.seeds);
  }

module _ {T L D : Type 0} (values : Values) (link : L → Link) (step : L → Exchange → L → Type 0)
    (count : D → ℕ) (old new : List (fleet_worker.Worker T L D)) where
  -- the headline of workers, as they were and as they are, at these parts; what each worker's
  -- plugins were asked and answered, line by line, by which its links came to be what they are; of
  -- no other number was anything heard
  pub record FleetHeadline (files : List SettingsFile) (o : Opening) (parts : List Part)
      (history : List Entry) : Type 0 where
    pub whole : length old ≡ length parts
    pub many : length new ≡ length parts
    pub benches : (worker : ℕ) → List (List L × D)
    pub exchanges : (worker : ℕ) → List (List Exchange)
    pub benches_are : (worker : ℕ) (part : Part) (before after : fleet_worker.Worker T L D)
        → slice_get parts worker ≡ Some part → slice_get old worker ≡ Some before
        → slice_get new worker ≡ Some after
        → AreBenches link step count (benches worker) (exchanges worker) part.lines.0 before.bench
        after.bench
    pub heard : (worker : ℕ) → Heard
    pub was_heard : (worker : ℕ) (before after : fleet_worker.Worker T L D)
        → slice_get old worker ≡ Some before → slice_get new worker ≡ Some after
        → WasHeard step (heard worker) before.bench after.bench
    pub by_line : (worker : ℕ)
        → (heard worker).exchanges ≡ flat_map (λ asked. asked) (exchanges worker)
    pub no_more : (worker : ℕ) → length parts ≤ worker → heard worker ≡ unheard
    pub has : HasHeadline values heard o files (map worker_of parts)
        (map (λ (worker : fleet_worker.Worker T L D). worker.told.0) new) history
        (outside_of link count benches exchanges)

  -- the run that has it
  abbrev pub run_in : (files : List SettingsFile) (o : Opening) (parts : List Part)
      (history : List Entry) → FleetHeadline files o parts history → Run
  run_in files o parts history h = run_of values h.heard o files (map worker_of parts)
      (map (λ (worker : fleet_worker.Worker T L D). worker.told.0) new) history
      (outside_of link count h.benches h.exchanges) h.has.readings
