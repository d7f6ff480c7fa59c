-- What readers take from the relation of a fleet.
use Rattle.std.proofs.Common.{ℕ, List, Option, Result, Err}
use Rattle.kr_kms.specs.Calls.{Link}
use Rattle.kr_kms.specs.Exchanges.{Exchange}
use Rattle.kr_workers.specs.declared.ending.Ending.{Ending}
use Rattle.kr_cmd_steps.specs.Environment.{Environment}
use Rattle.kr_cmd_fleet.specs.FleetReadings.{FleetReadings, HasStarted}
use Rattle.kr_cmd_fleet.specs.FleetReady.{IsFleetTold}
use Rattle.kr_cmd_fleet.specs.Fleets.{RanFleet, fleet_steps}
use Rattle.kr_cmd_messages.specs.Receipts.{Receipt}
use Rattle.kr_cmd_messages.specs.declared.fleet_words.FleetWords.{FleetWords}
use Rattle.kr_cmd_messages.specs.declared.refusal.Stop.{Stop}
use Rattle.kr_cmd_messages.specs.declared.refusal.Stop.TheVariants.{Words, Refused, Fault, NoMemory}
use Rattle.kr_cmd_laws.proofs.Causes.{BreaksOff, causes}
use Rattle.kr_cmd_laws.proofs.FleetEndings.{completed, started_or_not}
use Rattle.kr_cmd_laws.proofs.FleetSettled.{settled_fleet}

module _ (T : Type 0) {L D : Type 0} (link : L → Link)
    (step : L → Exchange → L → Type 0) (lent took : ℕ → L → Type 0)
    (left : D → Option (List ℕ)) (count : D → ℕ) (words : FleetWords) (old new : Environment)
    (output errors : Receipt) where
  abbrev Began : Result Ending Stop → Type 0
  Began result = HasStarted T link step lent took left count words old new output errors
      result

  breaks : (stop : Stop) → Began (Err stop) → BreaksOff output stop
  breaks (Fault object n) s = s.writes.2
  breaks NoMemory s = tt
  breaks other s = absurd s.writes

  pub fleet_readings : (status : ℕ)
      → RanFleet T link step lent took left count words old new output errors status
      → FleetReadings T link step lent took left count words old new output errors status
  fleet_readings status ran = record {
    causes = causes T link step left count (fleet_steps words) words.store Began old new
        output errors (λ e s. (s.begun, (s.reaches.end, s.reaches.goes))) breaks
        (IsFleetTold words old)
        (settled_fleet words old) status ran.result ran.did.home (started_or_not ran.did)
        ran.tells;
    complete = λ ready none.
        completed T link step lent took left count words old ready new output errors none
        status ran;
  }
