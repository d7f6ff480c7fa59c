-- What several workers are asked for; or words that weren't read, which stop the call, and ask
-- several workers for nothing, unless memory lacked.
use Rattle.std.proofs.Common.{◌≡◌, ℕ, List, Option, Result, Err, refl, subst, inl, inr}
use Rattle.kr_cmd_messages.specs.FleetAsked.{AskNoFleet}
use Rattle.kr_cmd_messages.specs.LoadAsked.{AskNoLoad}
use Rattle.kr_cmd_messages.specs.declared.refusal.Stop.{Stop}
use Rattle.kr_cmd_messages.specs.declared.refusal.Stop.TheVariants.{Words, NoMemory}
use Rattle.kr_cmd_messages.specs.inner.FleetAnswers.{IsFleetAsked}
use Rattle.kr_cmd_messages.specs.inner.LoadAnswers.{IsLoadAsked}
use Rattle.kr_cmd_messages.specs.inner.WatchAnswers.{IsWatchAsked}
use Rattle.kr_kms.specs.Calls.{Link}
use Rattle.kr_kms.specs.Exchanges.{Exchange}
use Rattle.kr_kms.specs.Outside.{Outside}
use Rattle.kr_workers.specs.declared.ending.Ending.{Ending}
use Rattle.kr_cmd_messages.specs.Receipts.{Receipt}
use Rattle.kr_cmd_watch.proofs.WatchPages.{some_limit}
use Rattle.kr_top.specs.declared.team.TeamWords.{TeamWords}
use Rattle.kr_top.specs.declared.team.TeamWords.TheVariants.{Fleet, Load, Watch}
use Rattle.kr_top.specs.inner.Team.{AsksTeam, DidTeam, IsPaged, IsUnread}

pub no_fleet_read : (words : List (List ℕ)) (stop : Stop) → IsFleetAsked words (Err stop)
    → IsUnread words stop
no_fleet_read words (Words why) read = (read.0, inl (read.1, read.2, read.3))
no_fleet_read words NoMemory read = (tt, inr refl)
no_fleet_read words other read = absurd read

pub no_load_read : (words : List (List ℕ)) (stop : Stop) → AskNoFleet words
    → IsLoadAsked words (Err stop) → IsUnread words stop
no_load_read words (Words why) none read = (read.0, inl (none, read.1, read.2))
no_load_read words NoMemory none read = (tt, inr refl)
no_load_read words other none read = absurd read

pub no_watch_read : (words : List (List ℕ)) (stop : Stop) → AskNoFleet words → AskNoLoad words
    → IsWatchAsked words (Err stop) → IsUnread words stop
no_watch_read words (Words why) none nor read = (read.0, inl (none, nor, read.1))
no_watch_read words NoMemory none nor read = (tt, inr refl)
no_watch_read words other none nor read = absurd read

-- a page of a watch that is asked for has items
pub team_paged : (words : List (List ℕ)) (asked : TeamWords) → AsksTeam words asked
    → IsPaged asked
team_paged words (Fleet asked) asks = tt
team_paged words (Load asked) asks = tt
team_paged words (Watch asked) asks = some_limit words asked asks

pub team_did : (T : Type 0) {L D : Type 0} (link : L → Link)
    (step : L → Exchange → L → Type 0) (lent took : ℕ → L → Type 0)
    (left : D → Option (List ℕ)) (count : D → ℕ) {a b : TeamWords} (old new : Outside)
    (output : Receipt) (result : Result Ending Stop) → a ≡ b
    → DidTeam T link step lent took left count a old new output result
    → DidTeam T link step lent took left count b old new output result
team_did T link step lent took left count old new output result e did = subst
    (λ asked. DidTeam T link step lent took left count asked old new output result) e did
