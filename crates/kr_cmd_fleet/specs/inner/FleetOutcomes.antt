-- What a fleet over a store gives: it ended up to its workers, or they ran.
use Rattle.std.specs.Prelude.{◌≡◌, ℕ, ◌⊎◌, Bool, true, false, List, [], ◌∷◌, length, map, Option, Result, Ok, Err, ⊤}
use Rattle.kr_kms.specs.Calls.{Link}
use Rattle.kr_kms.specs.Exchanges.{Exchange}
use Rattle.std.specs.Option.{option_map}
use Rattle.kr_provider.specs.Publication.{Publication}
use Rattle.kr_rollout.specs.declared.opening.Entry.{Entry}
use Rattle.kr_workers.specs.declared.budget.BudgetNo.{BudgetNo}
use Rattle.kr_workers.specs.declared.budget.BudgetNo.TheVariants as budget
use Rattle.kr_workers.specs.declared.worker.Worker as fleet_worker
use Rattle.kr_cmd_steps.specs.Environment.{Environment, IsHome}
use Rattle.kr_cmd_fleet.specs.FleetFiles.{FleetPlan, NamedRows}
use Rattle.kr_cmd_fleet.specs.Fleets.{Begun, FailsToSettle, Replicas, RunsFleet, StartsNone, rows_of_replica, settled_behind}
use Rattle.kr_cmd_steps.specs.Steps.{Steps}
use Rattle.kr_cmd_fleet.specs.declared.fleet.Record.{Record}
use Rattle.kr_cmd_messages.specs.declared.refusal.Limit.TheVariants as limit
use Rattle.kr_cmd_messages.specs.declared.refusal.Refusal.TheVariants.{Limit}
use Rattle.kr_cmd_messages.specs.declared.refusal.Stop.{Stop}
use Rattle.kr_cmd_messages.specs.declared.refusal.Stop.TheVariants.{Refused, NoMemory}
use Rattle.kr_cmd_fleet.specs.inner.Readings.{KnowsItems}
use Rattle.kr_cmd_steps.specs.inner.Phases.{Does}

-- what the workers ran from, where the store was settled behind them
abbrev pub settled_if : Bool → (store : List ℕ) → Environment → Environment
settled_if false store mid = mid
settled_if true store mid = settled_behind store mid

-- what is said of workers, as they began and as they ended, of what was heard up to them, and of
-- what the first one's links had answered
abbrev pub Beginning : (T L D : Type 0) → Type 1
Beginning T L D = (heard : Option (List Exchange)) → (exchanges : List Exchange)
    → (workers ended : List (fleet_worker.Worker T L D)) → Type 0

-- nothing is
abbrev pub Anyhow : (T L D : Type 0) → Beginning T L D
Anyhow T L D = λ heard exchanges workers ended. ⊤

module _ (T : Type 0) {L D : Type 0} (link : L → Link)
    (step : L → Exchange → L → Type 0)
    (left : D → Option (List ℕ)) (count : D → ℕ) where
  -- the workers ran, and left this record; the store was settled behind them, if so
  pub record LeavesRecord (Begins : Beginning T L D) (settled watched : Bool) (steps : Steps Begun)
      (store : List ℕ) (plan : FleetPlan) (old new : Environment) (made : Record) : Type 0 where
    pub begun : Begun
    pub plan_is : begun.plan ≡ plan
    pub mid : Environment
    pub does : Does steps old mid (Ok begun)
    pub history : List Entry
    pub ended : List (fleet_worker.Worker T L D)
    pub runs : RunsFleet link step left count store begun (settled_if settled store mid) new
        history ended
    pub begins : Begins mid.heard runs.made.exchanges runs.workers ended
    pub lines : made.lines.0 ≡ map (λ (e : Entry). e.line) history
    pub replies : made.replies.0 ≡ map (λ (w : fleet_worker.Worker T L D). w.told) ended
    pub items_are : made.start.items.0 ≡ begun.items
    pub revision_is : made.start.revision ≡ length begun.stored.rows
    pub known : KnowsItems watched runs.made.exchanges begun.stored.rows begun.replicas
        begun.items
    pub home : IsHome old new

  -- memory lacked for the workers
  pub record LacksWorkers (steps : Steps Begun) (store : List ℕ) (old new : Environment)
      (stop : Stop) : Type 0 where
    pub stops : stop ≡ NoMemory
    pub begun : Begun
    pub mid : Environment
    pub does : Does steps old mid (Ok begun)
    pub none : StartsNone store begun mid new
    pub home : IsHome old new

  -- what these steps up to the workers give
  abbrev pub RunsBy : Beginning T L D → (watched : Bool) → Steps Begun → (store : List ℕ)
      → FleetPlan → (old new : Environment) → Result Record Stop → Type 0
  RunsBy Begins watched steps store plan old new (Ok made) =
      LeavesRecord Begins false watched steps store plan old new made
  RunsBy Begins watched steps store plan old new (Err stop) =
      Does steps old new (Err stop) ⊎ LacksWorkers steps store old new stop

  -- the workers ran, and the store couldn't be settled behind them
  pub record LacksSettling (Begins : Beginning T L D) (steps : Steps Begun) (store : List ℕ)
      (old new : Environment) (stop : Stop) : Type 0 where
    pub begun : Begun
    pub mid : Environment
    pub does : Does steps old mid (Ok begun)
    pub fails : FailsToSettle T link step left count store begun mid new stop
    pub begins : Begins mid.heard fails.runs.made.exchanges fails.runs.workers fails.ended
    pub home : IsHome old new

  -- what these steps up to the workers give, where the store is settled behind them
  abbrev pub SettlesBy : Beginning T L D → (watched : Bool) → Steps Begun → (store : List ℕ)
      → FleetPlan → (old new : Environment) → Result Record Stop → Type 0
  SettlesBy Begins watched steps store plan old new (Ok made) =
      LeavesRecord Begins true watched steps store plan old new made
  SettlesBy Begins watched steps store plan old new (Err stop) =
      Does steps old new (Err stop) ⊎ LacksWorkers steps store old new stop
      ⊎ LacksSettling Begins steps store old new stop

  -- the same; where no worker was started this holds
  abbrev pub SettlesOr : (Idle : Type 0) → Beginning T L D → (watched : Bool) → Steps Begun
      → (store : List ℕ) → FleetPlan → (old new : Environment) → Result Record Stop → Type 0
  SettlesOr Idle Begins watched steps store plan old new (Ok made) =
      LeavesRecord Begins true watched steps store plan old new made
  SettlesOr Idle Begins watched steps store plan old new (Err stop) =
      (Idle × (Does steps old new (Err stop) ⊎ LacksWorkers steps store old new stop))
      ⊎ LacksSettling Begins steps store old new stop

-- why there are no budgets, as a command says it
abbrev pub budget_stop : BudgetNo → Stop
budget_stop budget.TooMany = Refused (Limit limit.Journal)
budget_stop budget.NoMemory = NoMemory

-- ---- what the replicas publish

abbrev pub published_in : Result (List (Option Publication) × ℕ) Stop → Result Replicas Stop
published_in (Ok made) = Ok made.0
published_in (Err stop) = Err stop

-- a replica that is in published the configuration of its file
abbrev pub IsPublishedBy : List NamedRows → (List ℕ × List ℕ) → Option Publication → Type 0
IsPublishedBy files replica published =
    option_map (λ p. p.rows) published ≡ rows_of_replica files replica

abbrev pub ArePublished : List NamedRows → List (List ℕ × List ℕ) → Replicas → Type 0
ArePublished files [] [] = ⊤
ArePublished files [] (p ∷ published) = ⊥
ArePublished files (replica ∷ replicas) [] = ⊥
ArePublished files (replica ∷ replicas) (p ∷ published) =
    IsPublishedBy files replica p × ArePublished files replicas published
