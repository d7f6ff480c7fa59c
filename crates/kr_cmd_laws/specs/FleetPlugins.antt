-- What plugins see of a fleet and of a watch up to their workers, and that they made its seeds.
use Rattle.std.specs.Prelude.{◌≡◌, ℕ, Bool, true, false, List, [], All, Contains, IfSome, Option, None, Some, Result, Ok}
use Rattle.kr_base.specs.Told.{Agrees}
use Rattle.kr_kms.specs.Calls.{Link}
use Rattle.kr_kms.specs.Exchanges.{AgreeAll, Exchange}
use Rattle.kr_kms.specs.Opens.{Opens}
use Rattle.kr_history.specs.Honesty.{SeedsOpen}
use Rattle.kr_store.specs.Stores.{IsListing}
use Rattle.kr_store.specs.declared.rows.Row.{Row}
use Rattle.kr_workers.specs.declared.ending.Ending.{Ending}
use Rattle.kr_cmd_messages.specs.Receipts.{Receipt}
use Rattle.kr_cmd_messages.specs.declared.fleet_words.FleetWords.{FleetWords}
use Rattle.kr_cmd_messages.specs.declared.refusal.Stop.{Stop}
use Rattle.kr_cmd_steps.specs.Environment.{Environment, StepsEndAt, step_state}
use Rattle.kr_cmd_steps.specs.Steps.{Point, hearing, or_empty}
use Rattle.kr_cmd_steps.specs.StoreFiles.{IsStored, Stored}
use Rattle.kr_cmd_fleet.specs.Fleets.{Begun, Starts, StopsBefore, steps_of_fleet, watch_steps}
use Rattle.kr_cmd_laws.specs.PluginLaws.{IsQuestion}

-- where no plugin was asked before, and what they are asked is told
abbrev pub Listens : Environment → Type 0
Listens old = old.heard ≡ Some []

-- what was heard is told, and each exchange of it is such
abbrev pub AllHeard : (Exchange → Type 0) → Option (List Exchange) → Type 0
AllHeard P None = ⊥
AllHeard P (Some heard) = All P heard

-- ---- which values may be asked by

-- the value is a live row's in the store of this name, which is made empty where it is absent
pub record IsLiveValue (store : List ℕ) (old : Environment) (value : List ℕ) : Type 0 where
  pub bytes : List ℕ
  pub stored : Stored
  pub live : List Row
  pub row : Row
  pub held : Agrees (or_empty (old.world.tapes.told store)) (Some bytes)
  pub read : IsStored bytes (Ok stored)
  pub listing : IsListing stored.rows live
  pub among : Contains live row
  pub is : value ≡ row.stored

-- a watch asks by those, a fleet by none
abbrev pub IsWatchedValue : (watched : Bool) → (store : List ℕ) → Environment → List ℕ → Type 0
IsWatchedValue false store old = λ value. ⊥
IsWatchedValue true store old = IsLiveValue store old

-- ---- a watch

-- whatever a watch's links were asked up to where its steps came to is a question for the status,
-- to wrap 32 bytes, or to unwrap the source in a live row. Where it starts its workers they came to
-- what these begin with: `reaches` and `heard` of `StartsWatch` (kr_cmd_watch)
abbrev pub WatchesAsk : Type 0
WatchesAsk = (words : FleetWords) (old mid : Environment) (point : Point Begun)
    (exchanges : List Exchange) → Listens old
    → StepsEndAt (watch_steps words) (step_state old) mid point
    → mid.heard ≡ hearing exchanges old.heard
    → All (IsQuestion (IsLiveValue words.store old)) exchanges

-- ---- a fleet

module _ (T : Type 0) {L D : Type 0} (link : L → Link)
    (step : L → Exchange → L → Type 0) (lent took : ℕ → L → Type 0)
    (left : D → Option (List ℕ)) (count : D → ℕ) where
  -- whatever the workers' links were asked before they had them is a question for the status, or to
  -- wrap 32 bytes
  abbrev pub StartsAskSeeds : Type 0
  StartsAskSeeds = (words : FleetWords) (old new : Environment) (output : Receipt)
      (result : Result Ending Stop) → Listens old
      → (s : Starts T link step lent took left count words old new output result)
      → All (IsQuestion (λ value. ⊥)) s.exchanges

  -- each seed of each replica that is in was wrapped by its plugin, with the key that the plugin
  -- answered: it opens by all openings that agree with what these links answered
  abbrev pub StartsMakeSeeds : Type 0
  StartsMakeSeeds = (words : FleetWords) (old new : Environment) (output : Receipt)
      (result : Result Ending Stop)
      (s : Starts T link step lent took left count words old new output result)
      (opens : Opens) → AgreeAll opens s.exchanges
      → All (λ replica. IfSome replica (SeedsOpen opens)) s.begun.replicas

-- ---- one of these that ends before it writes anything

module _ (T : Type 0) {L D : Type 0} (link : L → Link) (step : L → Exchange → L → Type 0)
    (left : D → Option (List ℕ)) (count : D → ℕ) where
  -- whatever the links of a fleet, or of a watch, that ends so were asked up to its workers is such
  -- a question
  abbrev pub StoppedStartsAsk : Type 0
  StoppedStartsAsk = (watched : Bool) (words : FleetWords) (old new : Environment)
      (output : Receipt) (result : Result Ending Stop) (exchanges : List Exchange) → Listens old
      → new.heard ≡ hearing exchanges old.heard
      → StopsBefore T link step left count (steps_of_fleet watched words) words.store old new output
      result → All (IsQuestion (IsWatchedValue watched words.store old)) exchanges
