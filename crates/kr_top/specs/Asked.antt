-- What a command asked plugins: a clause of `run` and of `run_alone`.
use Rattle.std.specs.Prelude.{ℕ, List, [], Option, None, Some, ⊤}
use Rattle.kr_kms.specs.Calls.{Link}
use Rattle.kr_kms.specs.Exchanges.{Exchange}
use Rattle.kr_cmd_messages.specs.Receipts.{Receipt}
use Rattle.kr_cmd_messages.specs.declared.fleet_words.FleetWords.{FleetWords}
use Rattle.kr_cmd_messages.specs.declared.watch_words.WatchWords.{WatchWords}
use Rattle.kr_cmd_steps.specs.Environment.{Environment, with_exchanges}
use Rattle.kr_cmd_steps.specs.Heard.{Heard}
use Rattle.kr_cmd_steps.specs.Ran.{Ran, Readings}
use Rattle.kr_cmd_fleet.specs.Fleets.{RanFleet}
use Rattle.kr_cmd_watch.specs.Watchings.{RanWatch}
use Rattle.kr_cmd_laws.specs.RunHeadlines.{RunHeadline}
use Rattle.kr_cmd_laws.specs.VerifyLaws.{listening}

-- the links of seat 0 that were lent to the command, all that were handed out meanwhile, answered
-- some exchanges, one behind another, and came back; its steps are those that `ran` says, and these
-- are the exchanges of the steps that ask a plugin, each of them
abbrev pub RanHearing : {L : Type 0} → (link : L → Link) → (lent took : ℕ → L → Type 0)
    → (step : L → Exchange → L → Type 0) → (words : List (List ℕ)) → (old new : Environment)
    → (output errors : Receipt) → (status : ℕ) → Type 0
RanHearing link lent took step words old new output errors status =
    Heard link lent took step 0 old.world new.world [] []
    (λ es. Ran words (listening old) (with_exchanges es (listening new)) output errors status
    × Readings words (listening old) (with_exchanges es (listening new)) output errors status)

-- the same where no one may wait; without a status nothing around was touched, as `RanAlone` says
abbrev pub AloneHearing : {L : Type 0} → (link : L → Link) → (lent took : ℕ → L → Type 0)
    → (step : L → Exchange → L → Type 0) → (words : List (List ℕ)) → (old new : Environment)
    → (output errors : Receipt) → Option ℕ → Type 0
AloneHearing link lent took step words old new output errors (Some status) =
    RanHearing link lent took step words old new output errors status
AloneHearing link lent took step words old new output errors None = ⊤

-- the same of a fleet: what its steps up to the workers asked is told as they went
abbrev pub RanFleetHearing : (T : Type 0) → {L D : Type 0} → (link : L → Link)
    → (step : L → Exchange → L → Type 0) → (lent took : ℕ → L → Type 0)
    → (left : D → Option (List ℕ)) → (count : D → ℕ) → (words : FleetWords)
    → (old new : Environment) → (output errors : Receipt) → (status : ℕ) → Type 0
RanFleetHearing T link step lent took left count words old new output errors status =
    (exchanges : List Exchange) × RanFleet T link step lent took left count words
    (listening old) (with_exchanges exchanges (listening new)) output errors status

-- the same of a watch: what its steps up to the workers asked, to publish and to read the live rows
abbrev pub RanWatchHearing : (T : Type 0) → {L D : Type 0} → (link : L → Link)
    → (step : L → Exchange → L → Type 0) → (lent took : ℕ → L → Type 0)
    → (left : D → Option (List ℕ)) → (count : D → ℕ) → (words : WatchWords)
    → (old new : Environment) → (output errors : Receipt) → (status : ℕ) → Type 0
RanWatchHearing T link step lent took left count words old new output errors status =
    (exchanges : List Exchange) × RanWatch T link step lent took left count words
    (listening old) (with_exchanges exchanges (listening new)) output errors status

-- a fleet's headline, where that is told: where workers were started, these exchanges are those of
-- its steps (`no_more`)
abbrev pub HeadlineHearing : (T : Type 0) → {L D : Type 0} → (link : L → Link)
    → (step : L → Exchange → L → Type 0) → (lent took : ℕ → L → Type 0)
    → (left : D → Option (List ℕ)) → (count : D → ℕ) → (words : FleetWords)
    → (old new : Environment) → (output errors : Receipt) → (status : ℕ) → Type 0
HeadlineHearing T link step lent took left count words old new output errors status =
    (exchanges : List Exchange) × RunHeadline T link step lent took left count words
    (listening old) (with_exchanges exchanges (listening new)) output errors status
