-- `gen`: the steps up to its workers, and what a call did once they were started.
use Rattle.std.specs.Prelude.{◌≡◌, ℕ, ◌+◌, ◌≤◌, ◌⊎◌, false, List, [], ◌∷◌, map, Option, Result, Ok, Err}
use Rattle.std.specs.List.{range_with_len}
use Rattle.std.specs.Io.KnownBytes.{Appends, Keeps}
use Rattle.kr_base.specs.Faults.{Rose}
use Rattle.kr_base.specs.Streams.{AppendsFront}
use Rattle.kr_kms.specs.Calls.{Link}
use Rattle.kr_kms.specs.Exchanges.{Exchange}
use Rattle.kr_kms.specs.Outside.{Objects, Outside, same_seat}
use Rattle.kr_kms.specs.declared.world.Access.TheVariants.{ToMake}
use Rattle.kr_workload.specs.Endings.{ending_of_load}
use Rattle.kr_workload.specs.Loads.{configurations, load_fleet}
use Rattle.kr_workload.specs.Streams.{StreamState, link_faults, left_in, worker_dice}
use Rattle.kr_workload.specs.Summaries.{IsSummary, Replies}
use Rattle.kr_rollout.specs.declared.opening.Entry.{Entry}
use Rattle.kr_script.specs.Fleets.{Worker}
use Rattle.kr_workers.specs.declared.ending.Ending.{Ending}
use Rattle.kr_workers.specs.declared.worker.Worker as fleet_worker
use Rattle.kr_cmd_steps.specs.Environment.{Environment, IsHome, StepsEndAt, step_state, with_lent, with_world}
use Rattle.kr_cmd_steps.specs.Phases.{stored_on, tape_for}
use Rattle.kr_cmd_fleet.specs.FleetFiles.{FleetPlan}
use Rattle.kr_cmd_fleet.specs.Fleets.{Begun, RunsFleet, StopsBefore, TellsFleet, budgeting, launching, parts_of, settled_behind}
use Rattle.kr_cmd_messages.specs.Receipts.{Receipt}
use Rattle.kr_cmd_steps.specs.Steps.{Steps, and_then, gives}
use Rattle.kr_cmd_steps.specs.StoreFiles.{Stored}
use Rattle.kr_cmd_messages.specs.declared.load_words.LoadWords.{LoadWords}
use Rattle.kr_cmd_messages.specs.declared.refusal.Object.TheVariants.{Output, Store}
use Rattle.kr_cmd_messages.specs.declared.refusal.Stop.{Stop}
use Rattle.kr_cmd_messages.specs.declared.refusal.Stop.TheVariants.{Fault, NoMemory}

-- ---- up to the workers

-- what the load works by: its fleet and configurations, which name no plugin
abbrev pub load_plan : LoadWords → FleetPlan
load_plan words = record {
  fleet = load_fleet words.seed words.size;
  files = configurations words.seed;
  programs = [];
}

abbrev pub load_beginning : FleetPlan → Stored → Steps Begun
load_beginning plan stored =
    and_then (budgeting stored.rows (parts_of plan.fleet)) (launching false plan stored)

abbrev pub load_over : (store : List ℕ) → FleetPlan → Steps Begun
load_over store plan =
    tape_for store ToMake (and_then (stored_on Store store) (load_beginning plan))

-- of the world just the store's tape is borrowed
abbrev pub load_steps : LoadWords → Steps Begun
load_steps words = load_over words.store (load_plan words)

-- ---- the workers' random sources

-- sources of the seats from this one on stand among those of the world
abbrev pub lent_sources : (seat : ℕ) → List StreamState → Objects ℕ (Option (List ℕ))
    → Objects ℕ (Option (List ℕ))
lent_sources seat [] dice = dice
lent_sources seat (source ∷ sources) dice = with_lent same_seat seat (left_in source)
    (link_faults source) (lent_sources (seat + 1) sources dice)

-- the world, as if these sources of the load's workers were those of their seats
abbrev pub with_sources : List StreamState → Environment → Environment
with_sources sources a =
    with_world (record a.world { dice = lent_sources 0 sources a.world.dice }) a

-- as the workers begin: the one of seat i has the whole of stream 1 + i
abbrev pub streams_of : (seed : ℕ) → List StreamState
streams_of seed = map (worker_dice seed) (range_with_len 0 4)

abbrev pub with_streams : (seed : ℕ) → Environment → Environment
with_streams seed a = with_sources (streams_of seed) a

-- ---- once the workers were started

-- the summary was written, and the replies decide the status; or the output failed behind a prefix
-- of it, or memory lacked to make it
abbrev pub WritesLoad : LoadWords → List Worker → Replies → Receipt → Result Ending Stop → Type 0
WritesLoad words workers replies output (Ok told) = (told ≡ ending_of_load replies)
    × ((text : List ℕ)
    × IsSummary words.seed words.size workers replies text
    × Appends output.old output.new text)
WritesLoad words workers replies output (Err (Fault object n)) =
    ((text : List ℕ) × IsSummary words.seed words.size workers replies text
    × AppendsFront output.old output.new text)
    × (object ≡ Output) × Rose output.old_faults output.new_faults × (n ≡ output.new_faults)
WritesLoad words workers replies output (Err NoMemory) = Keeps output.old output.new
WritesLoad words workers replies output (Err why) = ⊥

-- nothing of the world was used but the store's tape
pub record LeavesOthers (old new : Outside) : Type 0 where
  pub dice : new.dice ≡ old.dice
  pub links : new.links ≡ old.links

module _ (T : Type 0) {L : Type 0} (link : L → Link)
    (step : L → Exchange → L → Type 0) where
  -- the workers were started, and what they stored is settled. Each drew from its own stream, from
  -- its begin on, and left the rest of it in these sources
  pub record StartsLoad (words : LoadWords) (sources : List StreamState) (old new : Environment)
      (output : Receipt) (result : Result Ending Stop) : Type 0 where
    pub begun : Begun
    pub plan_is : begun.plan ≡ load_plan words
    pub mid : Environment
    pub reaches : StepsEndAt (load_steps words) (step_state (with_streams words.seed old)) mid
        (gives begun)
    pub since : IsHome (with_streams words.seed old) mid
    pub history : List Entry
    pub ended : List (fleet_worker.Worker T L StreamState)
    pub runs : RunsFleet link step left_in link_faults words.store begun
        (settled_behind words.store mid) (with_sources sources new) history ended
    pub writes : WritesLoad words begun.plan.fleet.workers
        (map (λ (w : fleet_worker.Worker T L StreamState). w.told) ended) output result

  -- all that was handed out is back, and the workers' sources, if there are any, are left so
  pub record DidLoad (words : LoadWords) (old new : Environment) (output : Receipt)
      (result : Result Ending Stop) : Type 0 where
    pub home : IsHome old new
    pub others : LeavesOthers old.world new.world
    pub sources : List StreamState
    pub seated : IsHome (with_streams words.seed old) (with_sources sources new)
    pub did : StopsBefore T link step left_in link_faults (load_steps words) words.store
        (with_streams words.seed old)
        (with_sources sources new) output result
        ⊎ StartsLoad words sources old new output result

-- what a call of `run` did for a load
pub record RanLoad (T : Type 0) {L : Type 0} (link : L → Link)
    (step : L → Exchange → L → Type 0)
    (words : LoadWords) (old new : Environment) (output errors : Receipt) (status : ℕ)
    : Type 0 where
  pub result : Result Ending Stop
  pub did : DidLoad T link step words old new output result
  pub tells : TellsFleet result errors status
  pub written : output.old_faults ≤ output.new_faults
  pub told : errors.old_faults ≤ errors.new_faults
