-- What `judge` finds out of a reload, and what it writes.
use Rattle.std.specs.Prelude.{◌≡◌, ℕ, List, Option, None, Some, Result, Ok, Err}
use Rattle.kr_config.specs.Kept.{ConfigEntry}
use Rattle.kr_judge.specs.Texts.{verdict_text}
use Rattle.kr_judge.specs.Verdicts.{verdict_of}
use Rattle.kr_judge.specs.declared.verdict.Verdict.{Verdict}
use Rattle.kr_judge.specs.declared.verdict.Verdict.TheVariants.{Pass, DropsStored, DropsWriter, Unread}
use Rattle.kr_opening.specs.Needs.{needs_of}
use Rattle.kr_opening.specs.Replicas.{first_rows}
use Rattle.kr_opening.specs.Starts.{MayStart, IsNoStart, opening_generations}
use Rattle.kr_opening.specs.declared.opening_board.StartNo.{StartNo}
use Rattle.kr_opening.specs.declared.opening_board.StartNo.TheVariants as no
use Rattle.kr_store.specs.declared.rows.LogRow.{LogRow}
use Rattle.kr_cmd_messages.specs.Texts.{line}
use Rattle.kr_cmd_messages.specs.declared.refusal.Done.{Done}
use Rattle.kr_cmd_messages.specs.declared.refusal.Done.TheVariants.{Silent, Blocked}
use Rattle.kr_cmd_messages.specs.declared.refusal.Outcome.{Outcome}
use Rattle.kr_cmd_messages.specs.declared.refusal.Refusal.{Refusal}
use Rattle.kr_cmd_messages.specs.declared.refusal.Refusal.TheVariants.{Stray, OtherSecret, Unfit}

-- why the replicas' configurations don't go with what is stored, or with each other
abbrev pub start_refusal : StartNo → Option Refusal
start_refusal (no.Stray path) = Some (Stray path)
start_refusal (no.OtherSecret path) = Some (OtherSecret path)
start_refusal (no.Unfit replica verdict) = Some (Unfit replica verdict)
start_refusal no.NoMemory = None

-- the verdict on a replica's new settings, where the replicas' configurations go with what is
-- stored and with each other; or why they don't
abbrev pub IsJudged : List LogRow → (replicas : List (Option (List ConfigEntry))) → (replica : ℕ)
    → List ConfigEntry
    → Result Verdict Refusal → Type 0
IsJudged stored replicas replica rows (Ok verdict) =
    MayStart stored replicas
    × (verdict ≡ verdict_of (needs_of (first_rows replicas) stored)
    (opening_generations 0 replicas) replica rows)
IsJudged stored replicas replica rows (Err why) =
    (cause : StartNo) × IsNoStart stored replicas cause × (start_refusal cause ≡ Some why)

-- a verdict that isn't `pass` has a status of its own
abbrev pub verdict_done : Verdict → Done
verdict_done Pass = Silent
verdict_done (DropsStored path who) = Blocked
verdict_done (DropsWriter generation class who) = Blocked
verdict_done (Unread generation class who) = Blocked

abbrev pub verdict_outcome : Verdict → Outcome
verdict_outcome verdict =
    record { bytes = line (verdict_text verdict); done = verdict_done verdict }
