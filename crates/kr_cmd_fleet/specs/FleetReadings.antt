-- What follows from a fleet's relation for readers: what its status comes from.
use Rattle.std.specs.Prelude.{◌≡◌, ℕ, ◌<◌, ◌⊎◌, List, Contains, Option, Result, Ok}
use Rattle.kr_base.specs.Limits.{store_limit}
use Rattle.kr_kms.specs.Calls.{Link}
use Rattle.kr_kms.specs.Exchanges.{Exchange}
use Rattle.kr_rollout.specs.declared.line.Gave.TheVariants as gave
use Rattle.kr_rollout.specs.declared.opening.Entry.{Entry}
use Rattle.kr_workers.specs.declared.ending.Ending.{Ending}
use Rattle.kr_workers.specs.declared.ending.Ending.TheVariants as ending
use Rattle.kr_cmd_steps.specs.Environment.{Environment}
use Rattle.kr_cmd_fleet.specs.Causes.{Causes, HasEnded, NoneRose}
use Rattle.kr_cmd_fleet.specs.FleetReady.{IsFleetTold, IsReady}
use Rattle.kr_cmd_fleet.specs.Fleets.{Starts, fleet_steps}
use Rattle.kr_cmd_steps.specs.Ran.{WroteNothing}
use Rattle.kr_cmd_messages.specs.Receipts.{Receipt}
use Rattle.kr_cmd_messages.specs.declared.fleet_words.FleetWords.{FleetWords}
use Rattle.kr_cmd_messages.specs.declared.refusal.Stop.{Stop}

-- an entry says that the store is full, with the length that its file would have had
abbrev pub PassesLimit : List Entry → Type 0
PassesLimit history = (e : Entry) × Contains history e × (needed : ℕ)
    × (e.line.gave ≡ gave.StoreFull needed) × (store_limit < needed)

module _ (T : Type 0) {L D : Type 0} (link : L → Link)
    (step : L → Exchange → L → Type 0) (lent took : ℕ → L → Type 0)
    (left : D → Option (List ℕ)) (count : D → ℕ) (words : FleetWords) (old new : Environment)
    (output errors : Receipt) where
  abbrev pub HasStarted : Result Ending Stop → Type 0
  HasStarted result = Starts T link step lent took left count words old new output result

  -- the workers did their lines; an entry found the store full: with its row the file would have
  -- passed its limit
  abbrev pub HasFilled : Type 0
  HasFilled = (s : HasStarted (Ok ending.Full)) × WroteNothing errors × PassesLimit s.history

  -- all lines have replies, which decide the status: 0, or 1 where some reply isn't that its line
  -- was done, or 6 where a write would have passed the store's limit; or memory lacked
  abbrev pub IsCompleted : ℕ → Type 0
  IsCompleted status = ((status ≡ 0) × HasEnded HasStarted errors ending.Done)
      ⊎ ((status ≡ 1) × HasEnded HasStarted errors ending.Refused)
      ⊎ ((status ≡ 6) × HasFilled)
      ⊎ (status ≡ 5)

  pub record FleetReadings (status : ℕ) : Type 0 where
    pub causes : Causes (fleet_steps words) words.store HasStarted old new output errors
        (IsFleetTold words old) status
    -- where all is told to be ready and no count rose, nothing else stands in the way of the lines
    pub complete : IsReady words old → NoneRose old new output errors → IsCompleted status
