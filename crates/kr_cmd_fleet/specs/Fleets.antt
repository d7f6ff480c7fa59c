-- `fleet`: the steps up to its workers, and what a call did once they were started.
use mathlib.Core.Logic.{inl, inr}
use Rattle.std.specs.Prelude.{◌≡◌, ◌≢◌, ℕ, Bool, suc, zero, ◌+◌, ◌<◌, ◌≤◌, ◌⊎◌, true, false, List, [], ◌∷◌, ◌++◌, length, map, sum, get_or, All, Option, None, Some, Result, Ok, Err, ⊤, if◌then◌else◌}
use Rattle.std.specs.Io.KnownBytes.{Appends}
use Rattle.std.specs.Str.{bytes_eq}
use Rattle.kr_base.specs.Faults.{Rose}
use Rattle.kr_base.specs.Limits.{store_limit, journal_limit}
use Rattle.kr_base.specs.Streams.{AppendsFront}
use Rattle.kr_config.specs.Kept.{ConfigEntry}
use Rattle.kr_kms.specs.Calls.{Link}
use Rattle.kr_kms.specs.Exchanges.{Exchange}
use Rattle.kr_kms.specs.Outside.{link_at, with_call}
use Rattle.kr_kms.specs.declared.world.WorldCall.TheVariants.{Settled}
use Rattle.kr_kms.specs.Opens.{Opens}
use Rattle.kr_kms.specs.declared.world.Access.TheVariants.{ToMake}
use Rattle.kr_provider.specs.Names.{names_of}
use Rattle.kr_provider.specs.PluginOrder.{plugin_order}
use Rattle.kr_provider.specs.Publication.{Publication}
use Rattle.kr_rollout.specs.Histories.{ends_torn, state_of}
use Rattle.kr_history.specs.Honesty.{IsHonest}
use Rattle.kr_opening.specs.Replicas.{settings_of}
use Rattle.kr_opening.specs.Starts.{IsNoStart, MayStart}
use Rattle.kr_rollout.specs.declared.opening.Entry.{Entry}
use Rattle.kr_rollout.specs.declared.opening.Opening.{Opening}
use Rattle.kr_opening.specs.declared.opening_board.StartNo.{StartNo}
use Rattle.kr_script.specs.Fleets.{Fleet, Worker, worker_of}
use Rattle.kr_script.specs.Output.{fleet_output}
use Rattle.kr_script.specs.declared.script.Part.{Part}
use Rattle.kr_store.specs.File.{IsFile}
use Rattle.kr_store.specs.declared.rows.LogRow.{LogRow}
use Rattle.kr_watch.specs.declared.item.Item.{Item}
use Rattle.kr_workers.specs.Budgets.{AreBudgets, all_reloads}
use Rattle.kr_workers.specs.Endings.{gravest_ending, status_of}
use Rattle.kr_workers.specs.Histories.{IsOneHistory}
use Rattle.kr_workers.specs.declared.ending.Ending.{Ending}
use Rattle.kr_workers.specs.declared.files.SettingsFile.{SettingsFile}
use Rattle.kr_workers.specs.declared.worker.Worker as fleet_worker
use Rattle.kr_cmd_steps.specs.Afterwards.{AreLeft}
use Rattle.kr_cmd_steps.specs.Environment.{Environment, Ends, IsHome, StepsEndAt, step_state, with_world}
use Rattle.kr_cmd_steps.specs.Phases.{by_result, stored_on, tape_for, with_memory}
use Rattle.kr_cmd_messages.specs.FleetAsked.{AskAlone, AsksFleet}
use Rattle.kr_cmd_fleet.specs.FirstItems.{watching}
use Rattle.kr_cmd_fleet.specs.StartExchanges.{BeganWith, WereAsked, WereMade, links_in}
use Rattle.kr_cmd_fleet.specs.FleetFiles.{FleetPlan, NamedRows, named_rows, no_file, planning, file_entries}
use Rattle.kr_cmd_steps.specs.Judgements.{start_refusal}
use Rattle.kr_cmd_messages.specs.LoadAsked.{AsksLoad}
use Rattle.kr_cmd_messages.specs.WatchAsked.{AsksWatch}
use Rattle.kr_cmd_steps.specs.Plugins.{borrow_links_of, make_seeds}
use Rattle.kr_cmd_steps.specs.Ran.{WroteNothing, IsUntouched, Ran, Readings}
use Rattle.kr_cmd_messages.specs.Receipts.{Receipt, Tells}
use Rattle.kr_cmd_messages.specs.Message.{line_of, status_of as stop_status}
use Rattle.kr_cmd_steps.specs.Steps.{Steps, borrow_dice, find, gives, give, hearing, and_then}
use Rattle.kr_cmd_steps.specs.StoreFiles.{Stored}
use Rattle.kr_cmd_messages.specs.declared.fleet_words.FleetWords.{FleetWords}
use Rattle.kr_cmd_messages.specs.declared.load_words.LoadWords.{LoadWords}
use Rattle.kr_cmd_messages.specs.declared.watch_words.WatchWords.{WatchWords}
use Rattle.kr_cmd_steps.specs.declared.programs.Program.{Program}
use Rattle.kr_cmd_messages.specs.declared.refusal.Limit.TheVariants as limit
use Rattle.kr_cmd_messages.specs.declared.refusal.Object.TheVariants.{Output, Store}
use Rattle.kr_cmd_messages.specs.declared.refusal.Refusal.{Refusal}
use Rattle.kr_cmd_messages.specs.declared.refusal.Refusal.TheVariants.{Limit}
use Rattle.kr_cmd_messages.specs.declared.refusal.Stop.{Stop}
use Rattle.kr_cmd_messages.specs.declared.refusal.Stop.TheVariants.{Fault, NoMemory}

-- ---- budgets

-- the workers of a fleet as parts
abbrev pub parts_of : Fleet → List Part
parts_of fleet = map (λ (worker : Worker). record {
  name = worker.name;
  replica = worker.replica;
  lines = (worker.lines, 0);
}) fleet.workers

-- what the workers may add to the journal, or that it is more than a journal may have
abbrev pub AreWithin : List LogRow → List Part → Result (List ℕ) Refusal → Type 0
AreWithin rows parts (Ok budgets) =
    AreBudgets rows parts budgets × (sum budgets ≤ journal_limit)
AreWithin rows parts (Err why) = (why ≡ Limit limit.Journal)
    × ((budgets : List ℕ) × AreBudgets rows parts budgets × (journal_limit < sum budgets))

abbrev pub budgeting : List LogRow → List Part → Steps (List ℕ)
budgeting rows parts = find (Result (List ℕ) Refusal) (AreWithin rows parts) by_result

-- ---- what each worker has of the world

-- a random source and a link to each plugin for each of so many seats, from this one on
abbrev pub equipping : {A : Type 0} → List Program → (seat seats : ℕ) → Steps A → Steps A
equipping programs seat zero next = next
equipping programs seat (suc more) next = borrow_dice seat
    (borrow_links_of seat programs (equipping programs (seat + 1) more next))

-- ---- what the replicas publish, with what the first worker has

abbrev pub Replicas : Type 0
Replicas = List (Option Publication)

-- the configuration of a replica; none where it isn't in
abbrev pub rows_of_replica : List NamedRows → List ℕ × List ℕ → Option (List ConfigEntry)
rows_of_replica files replica =
    if bytes_eq replica.1 no_file then None else file_entries files replica.1

-- it is published with a seed of each plugin, and the others go on
abbrev pub publishes : Option (List ConfigEntry) → Replicas → (Replicas → Steps Replicas)
    → Steps Replicas
publishes None made next = next (made ++ None ∷ [])
publishes (Some rows) made next = and_then (with_memory (make_seeds (plugin_order rows)))
    (λ seeds. next (made ++ Some (record { rows = rows; seeds = seeds }) ∷ []))

abbrev pub publishing : List NamedRows → (made : Replicas) → List (List ℕ × List ℕ)
    → Steps Replicas
publishing files made [] = with_memory (give made)
publishing files made (replica ∷ replicas) = publishes (rows_of_replica files replica) made
    (λ more. publishing files more replicas)

-- the core starts where what is stored and the replicas' configurations go together
abbrev pub IsStart : List LogRow → Replicas → Result (Unit {0}) Refusal → Type 0
IsStart rows replicas (Ok done) = MayStart rows (settings_of replicas)
IsStart rows replicas (Err why) = (cause : StartNo)
    × IsNoStart rows (settings_of replicas) cause × (start_refusal cause ≡ Some why)

-- ---- up to the workers

-- what the workers begin with, and the objects of the live rows, where they were read
pub record Begun : Type 0 where
  pub plan : FleetPlan
  pub stored : Stored
  pub budgets : List ℕ
  pub replicas : Replicas
  pub items : List Item

abbrev pub starting : FleetPlan → Stored → List ℕ → Replicas → List Item → Steps Begun
starting plan stored budgets replicas items =
    and_then (find (Result (Unit {0}) Refusal) (IsStart stored.rows replicas) by_result)
    (λ done. with_memory (give (record {
      plan = plan;
      stored = stored;
      budgets = budgets;
      replicas = replicas;
      items = items;
    })))

-- from what the replicas published on; where someone watches, the live rows are read before
abbrev pub starting_with : (watched : Bool) → FleetPlan → Stored → List ℕ → Replicas
    → Steps Begun
starting_with watched plan stored budgets replicas =
    and_then (watching watched stored.rows replicas) (starting plan stored budgets replicas)

-- once each worker has an outfit, and with one for each
abbrev pub launching : (watched : Bool) → FleetPlan → Stored → List ℕ → Steps Begun
launching watched plan stored budgets =
    and_then (publishing plan.files [] plan.fleet.replicas)
    (starting_with watched plan stored budgets)

abbrev pub equipping_all : (watched : Bool) → FleetPlan → Stored → List ℕ → Steps Begun
equipping_all watched plan stored budgets =
    equipping plan.programs 0 (length plan.fleet.workers)
    (launching watched plan stored budgets)

abbrev pub beginning : (watched : Bool) → FleetPlan → Stored → Steps Begun
beginning watched plan stored =
    and_then (budgeting stored.rows (parts_of plan.fleet)) (equipping_all watched plan stored)

-- a fleet by its plan, over the store of this name
abbrev pub over_store : (watched : Bool) → (store : List ℕ) → FleetPlan → Steps Begun
over_store watched store plan =
    tape_for store ToMake (and_then (stored_on Store store) (beginning watched plan))

abbrev pub steps_of_fleet : (watched : Bool) → FleetWords → Steps Begun
steps_of_fleet watched words =
    and_then (planning words.file words.options) (over_store watched words.store)

abbrev pub fleet_steps : FleetWords → Steps Begun
fleet_steps words = steps_of_fleet false words

-- the same where someone watches
abbrev pub watch_steps : FleetWords → Steps Begun
watch_steps words = steps_of_fleet true words

-- ---- once the workers were started

-- what the core begins with: the rows of the store's file and what the replicas published, a gap
-- for one that isn't in; a configuration may name the plugins of all that the fleet file names
abbrev pub opening_of : (store : List ℕ) → Begun → Environment → Opening
opening_of store begun mid = record {
  format = begun.stored.format;
  rows = begun.stored.rows;
  replicas = begun.replicas;
  names = map (λ (program : Program). program.plugin) begun.plan.programs;
  reloads = all_reloads (parts_of begun.plan.fleet);
  limit = store_limit;
  count = mid.world.tapes.faults store;
  torn = false;
}

-- a worker has the random source of its seat, and the seat's link to each plugin
pub record IsEquipped {L D : Type 0} (link : L → Link) (left : D → Option (List ℕ))
    (count : D → ℕ) (programs : List Program) (seat : ℕ) (around : Environment) (links : List L)
    (dice : D) : Type 0 where
  pub names : names_of link links ≡ map (λ (program : Program). program.plugin) programs
  pub links_are : All (λ l. link l ≡ link_at around.world.links seat (link l).name) links
  pub left_is : left dice ≡ around.world.dice.told seat
  pub count_is : count dice ≡ around.world.dice.faults seat

abbrev pub AreEquipped : {T L D : Type 0} → (link : L → Link) → (left : D → Option (List ℕ))
    → (count : D → ℕ) → List Program → Environment → List (fleet_worker.Worker T L D) → Type 0
AreEquipped {T} {L} {D} link left count programs around workers = (seat : ℕ)
    (d : fleet_worker.Worker T L D) → seat < length workers
    → IsEquipped link left count programs seat around (get_or workers seat d).bench.links
    (get_or workers seat d).bench.dice

-- the tape begins with the file of the store's rows, if it tells, and is no more than that unless a
-- write has failed since the last one that was done
abbrev pub HasRows : Option (Option (List ℕ)) → Begun → List LogRow → (torn : Bool) → Type 0
HasRows (Some (Some bytes)) begun rows torn = (file : List ℕ) × (rest : List ℕ)
    × IsFile begun.stored.format rows file × (bytes ≡ file ++ rest)
    × ((rest ≡ []) ⊎ (torn ≡ true))
HasRows (Some None) begun rows torn = ⊥
HasRows None begun rows torn = ⊤

-- beside the links and random sources of so many seats and the store's tape all is as it was when
-- the workers started; so is what was heard up to there: the exchanges of the workers' lines stand
-- in their history
pub record LeavesRest (store : List ℕ) (seats : ℕ) (mid new : Environment) : Type 0 where
  pub file : new.world.file ≡ mid.world.file
  pub tapes : (other : List ℕ) → other ≢ store
      → new.world.tapes.told other ≡ mid.world.tapes.told other
  pub dice : (seat : ℕ) → seats ≤ seat
      → new.world.dice.told seat ≡ mid.world.dice.told seat
  pub links : (seat : ℕ) (plugin : List ℕ) → seats ≤ seat
      → new.world.links.told (seat, plugin) ≡ mid.world.links.told (seat, plugin)
  pub faults : new.world.faults ≡ mid.world.faults
  pub asked : new.world.asked ≡ mid.world.asked
  pub input : new.input ≡ mid.input
  pub said : new.said ≡ mid.said
  pub heard : new.heard ≡ mid.heard

-- One history: that of a core which began with the store's rows and what the replicas published,
-- in order the settings of their files, a gap for one that isn't in; their seeds were made by what
-- the first worker's links had answered, so that the opening is honest by all openings that agree
-- with that. It is legal (without a program for a plugin honest whatever sources open to), with the
-- lines of each worker, whose bench kept no seed when it began, and with nothing else.
-- What it says of the replies follows: the headline, and the law `replies_are_true` of kr_workers.
-- The store has the opening's rows and the written entries', and no more unless the last write of
-- all failed; its count is that of the last line; what the workers had is back.
pub record RunsFleet {T L D : Type 0} (link : L → Link)
    (step : L → Exchange → L → Type 0)
    (left : D → Option (List ℕ)) (count : D → ℕ) (store : List ℕ) (begun : Begun)
    (mid new : Environment) (history : List Entry) (ended : List (fleet_worker.Worker T L D))
    : Type 0 where
  pub published : settings_of begun.replicas
      ≡ map (rows_of_replica begun.plan.files) begun.plan.fleet.replicas
  pub parts : List Part
  pub parts_are : map worker_of parts ≡ begun.plan.fleet.workers
  pub files : List SettingsFile
  pub files_are : map named_rows files ≡ begun.plan.files
  pub workers : List (fleet_worker.Worker T L D)
  pub many : length workers ≡ length parts
  pub cold : All (λ (worker : fleet_worker.Worker T L D). worker.bench.cache.rows ≡ []) workers
  pub before : AreEquipped link left count begun.plan.programs mid workers
  pub one : IsOneHistory link step left count files history (opening_of store begun mid) parts
      begun.budgets workers ended
  pub made : WereMade step begun.replicas workers
  pub bare : begun.plan.programs ≡ [] → (any : Opens)
      → IsHonest any (opening_of store begun mid) history
  pub after : AreEquipped link left count begun.plan.programs new ended
  pub stored : HasRows (new.world.tapes.told store) begun
      (state_of (opening_of store begun mid) history).rows
      (ends_torn (opening_of store begun mid) history)
  pub counted : new.world.tapes.faults store
      ≡ (state_of (opening_of store begun mid) history).count
  pub rest : LeavesRest store (length begun.plan.fleet.workers) mid new

-- no worker was started: the store has its rows, and what the workers would have had is as it was
pub record StartsNone (store : List ℕ) (begun : Begun) (mid new : Environment) : Type 0 where
  pub stored : HasRows (new.world.tapes.told store) begun begun.stored.rows false
  pub links : new.world.links.told ≡ mid.world.links.told
  pub dice : new.world.dice.told ≡ mid.world.dice.told
  pub rest : LeavesRest store (length begun.plan.fleet.workers) mid new

-- The workers ran, and left this; then what they stored couldn't be settled, so that the store's
-- count rose once more. It tells what it told, and all else stayed
pub record FailsToSettle (T : Type 0) {L D : Type 0} (link : L → Link)
    (step : L → Exchange → L → Type 0)
    (left : D → Option (List ℕ)) (count : D → ℕ) (store : List ℕ) (begun : Begun)
    (mid new : Environment) (stop : Stop) : Type 0 where
  pub ran : Environment
  pub history : List Entry
  pub ended : List (fleet_worker.Worker T L D)
  pub runs : RunsFleet link step left count store begun mid ran history ended
  pub told : new.world.tapes.told store ≡ ran.world.tapes.told store
  pub rose : Rose (ran.world.tapes.faults store) (new.world.tapes.faults store)
  pub stops : stop ≡ Fault Store (new.world.tapes.faults store)
  pub rest : LeavesRest store 0 ran new

-- the store was settled behind the workers, and the world was told so
abbrev pub settled_behind : (store : List ℕ) → Environment → Environment
settled_behind store mid = with_world
    (record mid.world { asked = with_call (Settled store) mid.world.asked }) mid

-- the journal and the replies
abbrev pub text_of : {T L D : Type 0} → Fleet → List Entry → List (fleet_worker.Worker T L D)
    → List ℕ
text_of fleet history ended = fleet_output fleet (map (λ (e : Entry). e.line) history)
    (map (λ w. w.told) ended)

-- they were written, and the replies decide the status; or the output failed, or memory lacked for
-- a line, behind a prefix of them
abbrev pub WritesFleet : (text : List ℕ) → Ending → Receipt → Result Ending Stop → Type 0
WritesFleet text ending output (Ok told) =
    (told ≡ ending) × Appends output.old output.new text
WritesFleet text ending output (Err (Fault object n)) =
    AppendsFront output.old output.new text × (object ≡ Output)
    × Rose output.old_faults output.new_faults × (n ≡ output.new_faults)
WritesFleet text ending output (Err NoMemory) = AppendsFront output.old output.new text
WritesFleet text ending output (Err why) = ⊥

module _ (T : Type 0) {L D : Type 0} (link : L → Link)
    (step : L → Exchange → L → Type 0)
    (left : D → Option (List ℕ)) (count : D → ℕ) where
  -- nothing was written: the steps up to the workers ended the command, or want of memory did
  -- before they started, or what they stored couldn't be settled
  abbrev pub StopsBefore : Steps Begun → (store : List ℕ) → (old new : Environment) → Receipt
      → Result Ending Stop → Type 0
  StopsBefore steps store old new output (Ok ending) = ⊥
  StopsBefore steps store old new output (Err stop) =
      (Ends steps (step_state old) old new (Err stop)
      ⊎ ((stop ≡ NoMemory) × ((mid : Environment) × (begun : Begun)
      × StepsEndAt steps (step_state old) mid (gives begun)
      × StartsNone store begun mid new × IsHome old mid))
      ⊎ ((mid : Environment) × (begun : Begun) × StepsEndAt steps (step_state old) mid (gives begun)
      × FailsToSettle T link step left count store begun mid new stop × IsHome old mid))
      × WroteNothing output

  -- links that had come so far before the workers came back so, unless these had them: then as
  -- these left them, and what the first worker's had answered before is just this
  abbrev pub ComeBack : List Exchange → (begun back : List (List L)) → (steps : Steps Begun)
      (store : List ℕ) (old new : Environment) (output : Receipt) (result : Result Ending Stop)
      → StopsBefore steps store old new output result → Type 0
  ComeBack exchanges begun back steps store old new output (Ok ending) stops = ⊥
  ComeBack exchanges begun back steps store old new output (Err stop) (inl ends, idle) =
      back ≡ begun
  ComeBack exchanges begun back steps store old new output (Err stop) (inr (inl none), idle) =
      back ≡ begun
  ComeBack exchanges begun back steps store old new output (Err stop)
      (inr (inr (mid, started, reaches, fails, home)), idle) =
      (links_in fails.runs.workers ≡ begun) × (links_in fails.ended ≡ back)
      × (fails.runs.made.exchanges ≡ exchanges)

module _ (T : Type 0) {L D : Type 0} (link : L → Link)
    (step : L → Exchange → L → Type 0) (lent took : ℕ → L → Type 0)
    (left : D → Option (List ℕ)) (count : D → ℕ) where
  -- The workers were started, and what they stored is settled. What the steps up to them asked of
  -- plugins is just what the first seat's links answered before the first worker had them
  pub record Starts (words : FleetWords) (old new : Environment) (output : Receipt)
      (result : Result Ending Stop) : Type 0 where
    pub begun : Begun
    pub mid : Environment
    pub reaches : StepsEndAt (fleet_steps words) (step_state old) mid (gives begun)
    pub since : IsHome old mid
    pub exchanges : List Exchange
    pub heard : mid.heard ≡ hearing exchanges old.heard
    pub history : List Entry
    pub ended : List (fleet_worker.Worker T L D)
    pub runs : RunsFleet link step left count words.store begun
        (settled_behind words.store mid) new history ended
    pub writes : WritesFleet (text_of begun.plan.fleet history ended)
        (gravest_ending (map (λ (w : fleet_worker.Worker T L D). w.told) ended)) output result
    pub began : BeganWith lent took step exchanges runs.workers ended
    pub made : runs.made.exchanges ≡ exchanges

  -- how the call ended
  abbrev pub EndsFleet : FleetWords → (old new : Environment) → Receipt → Result Ending Stop
      → List Exchange → Type 0
  EndsFleet words old new output result exchanges =
      StopsBefore T link step left count (fleet_steps words) words.store old new output result
      ⊎ ((start : Starts words old new output result) × (start.exchanges ≡ exchanges))

  -- so these links came back
  abbrev pub BackFrom : (begun back : List (List L)) → (words : FleetWords) (old new : Environment)
      (output : Receipt) (result : Result Ending Stop) (exchanges : List Exchange)
      → EndsFleet words old new output result exchanges → Type 0
  BackFrom begun back words old new output result exchanges (inl stops) =
      ComeBack T link step left count exchanges begun back (fleet_steps words) words.store old new
      output result stops
  BackFrom begun back words old new output result exchanges (inr (start, same)) =
      (links_in start.runs.workers ≡ begun) × (links_in start.ended ≡ back)

  -- all that was handed out is back; what the steps up to the workers asked, as far as they went,
  -- the links that were lent to the first seat answered, of all that were handed out; where the
  -- workers were started, it is just what those answered with which the first worker began (one
  -- list, that of `Starts`)
  pub record DidFleet (words : FleetWords) (old new : Environment) (output : Receipt)
      (result : Result Ending Stop) : Type 0 where
    pub home : IsHome old new
    pub exchanges : List Exchange
    pub heard : new.heard ≡ hearing exchanges old.heard
    pub asked : WereAsked link lent took step exchanges old.world new.world
    pub did : EndsFleet words old new output result exchanges
    pub came : BackFrom asked.begun asked.back words old new output result exchanges did

-- ---- the status

-- the replies decide the status, and nothing is said beside the output; else the line of what
-- ended the command is
abbrev pub TellsFleet : Result Ending Stop → Receipt → ℕ → Type 0
TellsFleet (Ok ending) errors status = (status ≡ status_of ending) × WroteNothing errors
TellsFleet (Err stop) errors status = Tells (line_of (Err stop)) (stop_status (Err stop)) errors
    status

-- what a call of `run` did for a fleet
pub record RanFleet (T : Type 0) {L D : Type 0} (link : L → Link)
    (step : L → Exchange → L → Type 0) (lent took : ℕ → L → Type 0)
    (left : D → Option (List ℕ)) (count : D → ℕ) (words : FleetWords) (old new : Environment)
    (output errors : Receipt) (status : ℕ) : Type 0 where
  pub result : Result Ending Stop
  pub did : DidFleet T link step lent took left count words old new output result
  pub tells : TellsFleet result errors status
  pub written : output.old_faults ≤ output.new_faults
  pub told : errors.old_faults ≤ errors.new_faults

-- what a call did where no one may wait: for a fleet, a watch and a load nothing, unless memory
-- lacked to read its words
abbrev pub RanAlone : (words : List (List ℕ)) → (old new : Environment) → (output errors : Receipt)
    → Option ℕ → Type 0
RanAlone words old new output errors (Some status) =
    Ran words old new output errors status × Readings words old new output errors status
    × AreLeft words old new output status × (AskAlone words
    ⊎ Tells (line_of (Err NoMemory)) (stop_status (Err NoMemory)) errors status)
RanAlone words old new output errors None =
    (((asked : FleetWords) × AsksFleet words asked) ⊎ ((asked : LoadWords) × AsksLoad words asked)
    ⊎ ((asked : WatchWords) × AsksWatch words asked))
    × IsUntouched old new output × WroteNothing errors
