-- What words ask several workers for, and what these did.
use Rattle.std.specs.Prelude.{◌≡◌, ℕ, ◌≤◌, ◌⊎◌, List, Option, None, Some, Result, Ok, Err, ⊤}
use Rattle.kr_kms.specs.Calls.{Link}
use Rattle.kr_kms.specs.Exchanges.{Exchange}
use Rattle.kr_kms.specs.Outside.{Outside}
use Rattle.kr_workers.specs.declared.ending.Ending.{Ending}
use Rattle.kr_cmd_messages.specs.FleetAsked.{AskAlone, AsksFleet}
use Rattle.kr_cmd_messages.specs.LoadAsked.{AsksLoad}
use Rattle.kr_cmd_messages.specs.Receipts.{Receipt}
use Rattle.kr_cmd_messages.specs.WatchAsked.{AsksWatch}
use Rattle.kr_cmd_messages.specs.declared.refusal.Stop.{Stop}
use Rattle.kr_cmd_messages.specs.declared.refusal.Stop.TheVariants.{NoMemory}
use Rattle.kr_cmd_steps.specs.Environment.{Environment, IsUnheard, with_exchanges, with_world}
use Rattle.kr_cmd_steps.specs.Ran.{StopsAtOnce}
use Rattle.kr_cmd_fleet.specs.Fleets.{DidFleet}
use Rattle.kr_cmd_gen.specs.GeneratedLoads.{DidLoad}
use Rattle.kr_cmd_watch.specs.Watchings.{DidWatch}
use Rattle.kr_top.specs.declared.team.TeamWords.{TeamWords}
use Rattle.kr_top.specs.declared.team.TeamWords.TheVariants.{Fleet, Load, Watch}

-- the words ask several workers for this
abbrev pub AsksTeam : List (List ℕ) → TeamWords → Type 0
AsksTeam words (Fleet asked) = AsksFleet words asked
AsksTeam words (Load asked) = AsksLoad words asked
AsksTeam words (Watch asked) = AsksWatch words asked

-- the words stop the call, and ask several workers for nothing, unless memory lacked to read them
abbrev pub IsUnread : List (List ℕ) → Stop → Type 0
IsUnread words stop =
    StopsAtOnce words (Err stop) × (AskAlone words ⊎ (stop ≡ NoMemory))

-- they ask several workers for this, or for nothing
abbrev pub IsTeamAsked : List (List ℕ) → Result (Option TeamWords) Stop → Type 0
IsTeamAsked words (Ok (Some asked)) = AsksTeam words asked
IsTeamAsked words (Ok None) = AskAlone words
IsTeamAsked words (Err stop) = IsUnread words stop

-- a page of a watch has items
abbrev pub IsPaged : TeamWords → Type 0
IsPaged (Watch asked) = 1 ≤ asked.limit
IsPaged other = ⊤

-- what they did, whatever else is around
module _ (T : Type 0) {L D : Type 0} (link : L → Link)
    (step : L → Exchange → L → Type 0) (lent took : ℕ → L → Type 0)
    (left : D → Option (List ℕ)) (count : D → ℕ) where
  abbrev pub DidTeam : TeamWords → (old new : Outside) → Receipt → Result Ending Stop → Type 0
  DidTeam (Fleet asked) old new output result = (exchanges : List Exchange) × ((a : Environment)
      → DidFleet T link step lent took left count asked (with_world old a)
      (with_world new (with_exchanges exchanges a)) output result)
  DidTeam (Load asked) old new output result = (a : Environment) → IsUnheard a
      → DidLoad T link step asked (with_world old a) (with_world new a) output result
  DidTeam (Watch asked) old new output result = (exchanges : List Exchange) × ((a : Environment)
      → DidWatch T link step lent took left count asked (with_world old a)
      (with_world new (with_exchanges exchanges a)) output result)
