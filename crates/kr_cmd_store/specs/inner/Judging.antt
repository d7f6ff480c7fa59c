-- What the phases of `judge` give to it.
use Rattle.std.specs.Prelude.{◌≡◌, ℕ, List, length, All, Option, IsSome, Result, Ok, Err, ⊤}
use Rattle.kr_base.specs.declared.list.List as lists
use Rattle.kr_config.specs.Kept.{ConfigEntry}
use Rattle.kr_config.specs.declared.settings.Settings.{Settings}
use Rattle.kr_judge.specs.declared.verdict.Verdict.{Verdict}
use Rattle.kr_opening.specs.Replicas.{rows_in}
use Rattle.kr_store.specs.declared.rows.LogRow.{LogRow}
use Rattle.kr_cmd_steps.specs.Judgements.{IsJudged, verdict_outcome}
use Rattle.kr_cmd_messages.specs.declared.refusal.Outcome.{Outcome}
use Rattle.kr_cmd_messages.specs.declared.refusal.Stop.{Stop}
use Rattle.kr_cmd_messages.specs.declared.refusal.Stop.TheVariants.{Words, Refused, Fault, NoMemory}

-- the settings of replicas by their rows
abbrev pub replica_rows : Result (lists.List (Option Settings)) Stop
    → Result (List (Option (List ConfigEntry))) Stop
replica_rows (Ok replicas) = Ok (rows_in replicas.0)
replica_rows (Err stop) = Err stop

-- one for each name, and all are in
abbrev pub AreIn : ℕ → List (Option Settings) → Type 0
AreIn count replicas = (length replicas ≡ count) × All (λ replica. IsSome replica) replicas

-- a verdict, or why there is none
abbrev pub Judges : List LogRow → List (Option (List ConfigEntry)) → ℕ → List ConfigEntry
    → Result Verdict Stop
    → Type 0
Judges stored replicas replica rows (Ok verdict) =
    IsJudged stored replicas replica rows (Ok verdict)
Judges stored replicas replica rows (Err (Refused why)) =
    IsJudged stored replicas replica rows (Err why)
Judges stored replicas replica rows (Err NoMemory) = ⊤
Judges stored replicas replica rows (Err (Words why)) = ⊥
Judges stored replicas replica rows (Err (Fault object count)) = ⊥

-- a verdict as what the command makes, where there is memory for its text
abbrev pub IsOutcome : Verdict → Result Outcome Stop → Type 0
IsOutcome verdict (Ok made) = made ≡ verdict_outcome verdict
IsOutcome verdict (Err NoMemory) = ⊤
IsOutcome verdict (Err stop) = ⊥
