-- The headline follows from the relation of a fleet.
use Rattle.std.specs.Prelude.{ℕ, List, Option}
use Rattle.kr_kms.specs.Calls.{Link}
use Rattle.kr_kms.specs.Exchanges.{Exchange}
use Rattle.kr_cmd_steps.specs.Environment.{Environment}
use Rattle.kr_cmd_messages.specs.Receipts.{Receipt}
use Rattle.kr_cmd_messages.specs.declared.fleet_words.FleetWords.{FleetWords}
use Rattle.kr_cmd_fleet.specs.Fleets.{RanFleet}
use Rattle.kr_cmd_laws.specs.RunHeadlines.{RunHeadline}

abbrev pub RunsHaveHeadlines : (T : Type 0) → {L D : Type 0} → (L → Link)
    → (L → Exchange → L → Type 0) → (lent took : ℕ → L → Type 0)
    → (D → Option (List ℕ)) → (D → ℕ) → Type 0
RunsHaveHeadlines T link step lent took left count = (words : FleetWords) (old new : Environment)
    (output errors : Receipt) (status : ℕ)
    → RanFleet T link step lent took left count words old new output errors status
    → RunHeadline T link step lent took left count words old new output errors status
