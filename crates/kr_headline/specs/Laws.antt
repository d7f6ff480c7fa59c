-- The headline follows from one history, and is tied to it.
use Rattle.std.specs.Prelude.{ℕ, List, Option}
use Rattle.kr_kms.specs.Calls.{Link}
use Rattle.kr_kms.specs.Exchanges.{Exchange}
use Rattle.kr_rollout.specs.declared.opening.Entry.{Entry}
use Rattle.kr_rollout.specs.declared.opening.Opening.{Opening}
use Rattle.kr_script.specs.declared.script.Part.{Part}
use Rattle.kr_workers.specs.declared.files.SettingsFile.{SettingsFile}
use Rattle.kr_workers.specs.declared.worker.Worker.{Worker}
use Rattle.kr_workers.specs.Histories.{IsOneHistory}
use Rattle.kr_headline.specs.Fleets.{FleetHeadline}
use Rattle.kr_headline.specs.Ties.{IsTied}
use Rattle.kr_headline.specs.Values.{sealed_values}

abbrev pub HeadlineHolds : (T : Type 0) → {L D : Type 0} → (L → Link)
    → (L → Exchange → L → Type 0)
    → (D → Option (List ℕ)) → (D → ℕ) → Type 0
HeadlineHolds T {L} {D} link step left count = (files : List SettingsFile)
    (history : List Entry) (o : Opening) (parts : List Part) (budgets : List ℕ)
    (old new : List (Worker T L D))
    → IsOneHistory link step left count files history o parts budgets old new
    → (h : FleetHeadline sealed_values link step count old new files o parts history)
    × IsTied link step left count files o parts budgets history old new h
