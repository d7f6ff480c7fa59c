-- What a call of `run` says of a load, for its operator: the headline over the generated lines. The
-- journal and the replies aren't printed; a summary of them is. Begin at `LoadHeadline`, the last
-- definition of this page.
use Rattle.std.specs.Prelude.{◌≡◌, ◌⊎◌, ◌≤◌, ℕ, List, map, All}
use Rattle.std.specs.Io.KnownBytes.{Appends, Keeps}
use Rattle.kr_base.specs.Faults.{Rose}
use Rattle.kr_base.specs.Streams.{AppendsFront}
use Rattle.kr_kms.specs.Calls.{Link}
use Rattle.kr_kms.specs.Exchanges.{Exchange}
use Rattle.kr_rollout.specs.declared.opening.Entry.{Entry}
use Rattle.kr_script.specs.Fleets.{Worker}
use Rattle.kr_workers.specs.Endings.{status_of as status_of_replies}
use Rattle.kr_workers.specs.declared.worker.Worker as fleet_worker
use Rattle.kr_workload.specs.Endings.{ending_of_load}
use Rattle.kr_workload.specs.Streams.{StreamState, link_faults, left_in}
use Rattle.kr_workload.specs.Summaries.{IsSummary, Replies}
use Rattle.kr_cmd_messages.specs.Receipts.{Receipt}
use Rattle.kr_cmd_messages.specs.declared.load_words.LoadWords.{LoadWords}
use Rattle.kr_cmd_messages.specs.declared.refusal.Object.TheVariants.{Output}
use Rattle.kr_cmd_messages.specs.declared.refusal.Stop.TheVariants.{Fault, NoMemory}
use Rattle.kr_cmd_steps.specs.Environment.{Environment, IsHome, StepsEndAt, step_state}
use Rattle.kr_cmd_steps.specs.Ran.{WroteNothing}
use Rattle.kr_cmd_steps.specs.Steps.{gives}
use Rattle.kr_cmd_fleet.specs.Fleets.{Begun, settled_behind}
use Rattle.kr_cmd_laws.specs.RunHeadlines.{StartsNobody, TellsStop, WorkersHeadline}
use Rattle.kr_cmd_gen.specs.GeneratedLoads.{LeavesOthers, load_plan, load_steps, with_sources, with_streams}

-- the whole summary was printed and nothing else, and the replies decide the status; or a prefix of
-- it was, since the output failed, and its count rose; or nothing, since memory lacked to make it
abbrev pub PrintsSummary : LoadWords → List Worker → Replies → (output errors : Receipt)
    → (status : ℕ) → Type 0
PrintsSummary words workers replies output errors status =
    ((text : List ℕ) × IsSummary words.seed words.size workers replies text
    × ((Appends output.old output.new text × WroteNothing errors
    × (status ≡ status_of_replies (ending_of_load replies)))
    ⊎ (AppendsFront output.old output.new text × Rose output.old_faults output.new_faults
    × TellsStop (Fault Output output.new_faults) errors status)))
    ⊎ (Keeps output.old output.new × TellsStop NoMemory errors status)

module _ (T : Type 0) {L : Type 0} (link : L → Link)
    (step : L → Exchange → L → Type 0) (words : LoadWords)
    (old new : Environment) (output errors : Receipt) (status : ℕ) where
  -- the workers of the load that the seed and the size decide were started, each with the random
  -- source of its seat, of which these sources are what is left. These are the program's own, and
  -- of a load that can be asked for none fails: so no line tells `fault dice`
  pub record StartsLoadWorkers (sources : List StreamState) : Type 0 where
    pub begun : Begun
    pub plan_is : begun.plan ≡ load_plan words
    pub mid : Environment
    pub reaches : StepsEndAt (load_steps words) (step_state (with_streams words.seed old)) mid
        (gives begun)
    pub since : IsHome (with_streams words.seed old) mid
    pub history : List Entry
    pub ended : List (fleet_worker.Worker T L StreamState)
    pub has : WorkersHeadline link step left_in link_faults words.store begun
        (settled_behind words.store mid) (with_sources sources new) history ended
    pub calm : words.size ≤ 10000
        → All (λ (w : fleet_worker.Worker T L StreamState). link_faults w.bench.dice ≡ 0) ended
    pub prints : PrintsSummary words begun.plan.fleet.workers
        (map (λ (w : fleet_worker.Worker T L StreamState). w.told) ended) output errors status

  -- all that was handed out is back, and of the world nothing was used but the store's tape.
  -- Nothing was printed, or the run of the workers has the headline
  abbrev pub LoadHeadline : Type 0
  LoadHeadline = IsHome old new × LeavesOthers old.world new.world × (sources : List StreamState)
      × (StartsNobody T link step left_in link_faults (load_steps words) words.store
      (with_streams words.seed old)
      (with_sources sources new) output errors status ⊎ StartsLoadWorkers sources)
