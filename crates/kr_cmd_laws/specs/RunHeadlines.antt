-- What a call of `run` says of a fleet, for its operator: the headline, over just what was printed.
-- Begin at `RunHeadline`, the last definition of this page; the sentence itself is `Headline` of
-- kr_headline.
use Rattle.std.specs.Prelude.{◌≡◌, ◌⊎◌, ℕ, List, [], fold, length, map, All, Option, None, IfSome, Err}
use Rattle.std.specs.Io.KnownBytes.{Appends}
use Rattle.std.specs.Option.{option_map}
use Rattle.kr_base.specs.Faults.{Rose}
use Rattle.kr_base.specs.Streams.{AppendsFront}
use Rattle.kr_kms.specs.Calls.{Link}
use Rattle.kr_kms.specs.Exchanges.{AgreeAll, Exchange}
use Rattle.kr_kms.specs.Opens.{Opens}
use Rattle.kr_history.specs.Honesty.{SeedsOpen}
use Rattle.kr_rollout.specs.Histories.{ends_torn, state_of}
use Rattle.kr_rollout.specs.declared.opening.Entry.{Entry}
use Rattle.kr_script.specs.Fleets.{worker_of}
use Rattle.kr_script.specs.declared.script.Part.{Part}
use Rattle.kr_store.specs.Rows.{live}
use Rattle.kr_store.specs.declared.rows.LogRow.{LogRow}
use Rattle.kr_store.specs.declared.rows.Row.{Row}
use Rattle.kr_workers.specs.Endings.{gravest_ending, status_of as status_of_replies}
use Rattle.kr_workers.specs.declared.ending.Ending.{Ending}
use Rattle.kr_workers.specs.declared.files.SettingsFile.{SettingsFile}
use Rattle.kr_workers.specs.declared.worker.Worker as fleet_worker
use Rattle.kr_headline.specs.Consequences.{LinksAgree}
use Rattle.kr_headline.specs.Fleets.{AreKnown, FleetHeadline}
use Rattle.kr_headline.specs.Headline.{Object, object_after, latest_revision}
use Rattle.kr_headline.specs.Ties.{IsTied}
use Rattle.kr_headline.specs.Values.{Values, sealed_values}
use Rattle.kr_cmd_messages.specs.Message.{line_of, status_of}
use Rattle.kr_cmd_messages.specs.Receipts.{Receipt, Tells}
use Rattle.kr_cmd_messages.specs.declared.fleet_words.FleetWords.{FleetWords}
use Rattle.kr_cmd_messages.specs.declared.refusal.Object.TheVariants.{Output}
use Rattle.kr_cmd_messages.specs.declared.refusal.Stop.{Stop}
use Rattle.kr_cmd_messages.specs.declared.refusal.Stop.TheVariants.{Fault, NoMemory}
use Rattle.kr_cmd_steps.specs.Environment.{Environment, IsHome, StepsEndAt, step_state}
use Rattle.kr_cmd_steps.specs.Ran.{WroteNothing}
use Rattle.kr_cmd_steps.specs.Steps.{Steps, gives, hearing}
use Rattle.kr_cmd_fleet.specs.FleetFiles.{named_rows}
use Rattle.kr_cmd_fleet.specs.StartExchanges.{BeganWith}
use Rattle.kr_cmd_fleet.specs.Fleets.{AreEquipped, Begun, HasRows, LeavesRest, StopsBefore, fleet_steps, opening_of, settled_behind, text_of}

-- ---- what is left in the store

-- the revision of what stands at a path after a history over these rows
abbrev pub revision_behind : List LogRow → List Entry → (path : List ℕ) → Option ℕ
revision_behind rows history path = option_map (λ (it : Object). it.revision)
    (fold (λ (now : Option Object) (e : Entry). object_after e.line.gave e.line.did path now)
    (option_map (λ revision. record { revision = revision; data_put = None })
    (option_map (λ (row : Row). row.revision) (live rows path))) history)

-- The file has the rows of the store with those that the history wrote behind them, sealed values
-- and all. A row lives at a path exactly where something stands there after the history, and has
-- its revision: so the next call begins with what this one ends with, also behind a write that
-- failed, since a row that is written after that cuts the file first. Only where a write has failed
-- since the last row that was written may more stand behind the rows. The store's count of faults
-- is that of the last step
pub record LeavesStore (store : List ℕ) (begun : Begun) (mid new : Environment)
    (history : List Entry) : Type 0 where
  pub rows : List LogRow
  pub rows_are : rows ≡ (state_of (opening_of store begun mid) history).rows
  pub file : HasRows (new.world.tapes.told store) begun rows
      (ends_torn (opening_of store begun mid) history)
  pub live_are : (path : List ℕ) → option_map (λ (row : Row). row.revision) (live rows path)
      ≡ revision_behind begun.stored.rows history path
  pub latest : length rows ≡ fold (λ (now : ℕ) (e : Entry). latest_revision e.line.gave now)
      (length begun.stored.rows) history
  pub failed : new.world.tapes.faults store ≡ fold (λ (now : ℕ) (e : Entry). e.line.faults)
      (mid.world.tapes.faults store) history

-- ---- what the workers did

-- Their run has the headline, from the store's rows and the replicas' configurations on. Each
-- worker had the random source and the links of its seat, and these are back: so a count that rose
-- while a line was done is the world's. No bench had kept a seed before. Of plugins nothing is
-- supposed where none has a program. Else it holds by all openings that agree with all that they
-- answered the workers, and by which the seeds that the replicas published open; and by all with
-- which each step agrees that these links can take. The store is left so, and beside it and what
-- the workers had all is as it was when they started
pub record WorkersPage {T L D : Type 0} (values : Values) (link : L → Link)
    (step : L → Exchange → L → Type 0)
    (left : D → Option (List ℕ)) (count : D → ℕ) (store : List ℕ) (begun : Begun)
    (mid new : Environment) (history : List Entry) (ended : List (fleet_worker.Worker T L D))
    : Type 0 where
  pub parts : List Part
  pub parts_are : map worker_of parts ≡ begun.plan.fleet.workers
  pub files : List SettingsFile
  pub files_are : map named_rows files ≡ begun.plan.files
  pub workers : List (fleet_worker.Worker T L D)
  pub cold : All (λ (worker : fleet_worker.Worker T L D). worker.bench.cache.rows ≡ []) workers
  pub before : AreEquipped link left count begun.plan.programs mid workers
  pub after : AreEquipped link left count begun.plan.programs new ended
  pub headline : FleetHeadline values link step count workers ended files
      (opening_of store begun mid) parts history
  pub known : (opens : Opens) → (begun.plan.programs ≡ [])
      ⊎ (((worker : ℕ) → AgreeAll opens (headline.heard worker).exchanges)
      × All (λ replica. IfSome replica (SeedsOpen opens)) begun.replicas)
      → AreKnown headline.heard opens (opening_of store begun mid)
  pub linked : (opens : Opens) → LinksAgree step opens
      → AreKnown headline.heard opens (opening_of store begun mid)
  pub stored : LeavesStore store begun mid new history
  pub rest : LeavesRest store (length begun.plan.fleet.workers) mid new

-- it is that over the values that providers seal, and it is tied to the lines that the workers did
pub record WorkersHeadline {T L D : Type 0} (link : L → Link)
    (step : L → Exchange → L → Type 0)
    (left : D → Option (List ℕ)) (count : D → ℕ) (store : List ℕ) (begun : Begun)
    (mid new : Environment) (history : List Entry) (ended : List (fleet_worker.Worker T L D))
    : Type 0 where
  pub page : WorkersPage sealed_values link step left count store begun mid new history
      ended
  pub tied : IsTied link step left count page.files (opening_of store begun mid) page.parts
      begun.budgets history page.workers ended page.headline

-- ---- the call

-- the line on standard error tells why, and so does the status
abbrev pub TellsStop : Stop → (errors : Receipt) → (status : ℕ) → Type 0
TellsStop stop errors status = Tells (line_of (Err stop)) (status_of (Err stop)) errors status

-- the whole text was printed and nothing else, and the replies decide the status; or a prefix of it
-- was, since the output failed, and its count rose; or since memory lacked for a line of it
abbrev pub Prints : (text : List ℕ) → Ending → (output errors : Receipt) → (status : ℕ) → Type 0
Prints text ending output errors status =
    (Appends output.old output.new text × WroteNothing errors × (status ≡ status_of_replies ending))
    ⊎ (AppendsFront output.old output.new text × Rose output.old_faults output.new_faults
    × TellsStop (Fault Output output.new_faults) errors status)
    ⊎ (AppendsFront output.old output.new text × TellsStop NoMemory errors status)

-- nothing was printed, and the line on standard error tells why: no worker was started, since the
-- steps up to them or want of memory ended the call, or what they stored couldn't be settled
pub record StartsNobody (T : Type 0) {L D : Type 0} (link : L → Link)
    (step : L → Exchange → L → Type 0)
    (left : D → Option (List ℕ)) (count : D → ℕ) (steps : Steps Begun) (store : List ℕ)
    (old new : Environment) (output errors : Receipt) (status : ℕ) : Type 0 where
  pub stop : Stop
  pub stops : StopsBefore T link step left count steps store old new output (Err stop)
  pub tells : TellsStop stop errors status

module _ (T : Type 0) {L D : Type 0} (link : L → Link)
    (step : L → Exchange → L → Type 0) (lent took : ℕ → L → Type 0)
    (left : D → Option (List ℕ)) (count : D → ℕ) (words : FleetWords) (old new : Environment)
    (output errors : Receipt) (status : ℕ) where
  -- The workers were started, from what the steps up to them came to, and what they stored is
  -- settled: that the store is back so is the last that the world was told. The journal and the
  -- replies that were printed are theirs. What these steps asked of plugins is just what the first
  -- seat's links answered before the first worker had them, and the list of the call is that one
  -- (`no_more`). Of plugins no more is supposed than that the openings agree with all that they
  -- answered in this call, then and to the workers: the seeds that the replicas published open by
  -- them
  pub record StartsWorkers : Type 0 where
    pub begun : Begun
    pub mid : Environment
    pub reaches : StepsEndAt (fleet_steps words) (step_state old) mid (gives begun)
    pub since : IsHome old mid
    pub history : List Entry
    pub ended : List (fleet_worker.Worker T L D)
    pub has : WorkersHeadline link step left count words.store begun
        (settled_behind words.store mid) new history ended
    pub exchanges : List Exchange
    pub heard : mid.heard ≡ hearing exchanges old.heard
    pub no_more : new.heard ≡ hearing exchanges old.heard
    pub began : BeganWith lent took step exchanges has.page.workers ended
    pub agreed : (opens : Opens) → AgreeAll opens exchanges
        → ((worker : ℕ) → AgreeAll opens (has.page.headline.heard worker).exchanges)
        → AreKnown has.page.headline.heard opens
        (opening_of words.store begun (settled_behind words.store mid))
    pub prints : Prints (text_of begun.plan.fleet history ended)
        (gravest_ending (map (λ (w : fleet_worker.Worker T L D). w.told) ended)) output errors
        status

  -- nothing was printed, or the run of the workers has the headline; either way all that was handed
  -- out is back, and no count fell
  abbrev pub RunHeadline : Type 0
  RunHeadline = IsHome old new
      × (StartsNobody T link step left count (fleet_steps words) words.store old new
      output errors status
      ⊎ StartsWorkers)
