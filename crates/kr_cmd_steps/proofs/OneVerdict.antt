-- There is one verdict alone.
use Rattle.std.proofs.Common.{◌≡◌, ◌≢◌, ℕ, List, Option, None, Some, Result, Ok, Err, sym, ◌∙◌, ap}
use Rattle.kr_config.specs.Kept.{ConfigEntry}
use Rattle.kr_judge.specs.declared.verdict.Verdict.{Verdict}
use Rattle.kr_opening.specs.declared.opening_board.StartNo.{StartNo}
use Rattle.kr_opening.specs.declared.opening_board.StartNo.TheVariants as no
use Rattle.kr_history.proofs.Causes.{one_cause}
use Rattle.kr_history.proofs.Judging.{refusal_is_exact}
use Rattle.kr_store.specs.declared.rows.LogRow.{LogRow}
use Rattle.kr_cmd_messages.specs.Command.{reload_in, reload_number, reload_file}
use Rattle.kr_cmd_steps.specs.Phases.{configuration}
use Rattle.kr_cmd_steps.specs.StoreSteps.{judging_at}
use Rattle.kr_cmd_steps.specs.Judgements.{IsJudged, start_refusal}
use Rattle.kr_cmd_steps.specs.Steps.{Steps, and_then}
use Rattle.kr_cmd_messages.specs.declared.refusal.Outcome.{Outcome}
use Rattle.kr_cmd_messages.specs.declared.refusal.Refusal.{Refusal}

-- the new configuration is read and judged, behind those of the replicas
abbrev pub read_then : (options : List (List ℕ × List ℕ)) → List LogRow
    → List (Option (List ConfigEntry)) → Steps Outcome
read_then options stored replicas = and_then (configuration (reload_file (reload_in options)))
    (judging_at stored replicas (reload_number (reload_in options)))

pub told_cause : (cause : StartNo) {why : Refusal} → start_refusal cause ≡ Some why
    → cause ≢ no.NoMemory
told_cause cause {why} is e =
    absurd (let n : None ≡ Some why = sym (ap start_refusal e) ∙ is in cc)

pub one_judged : (stored : List LogRow) (replicas : List (Option (List ConfigEntry))) (replica : ℕ)
    (rows : List ConfigEntry) (a b : Result Verdict Refusal) → IsJudged stored replicas replica rows a
    → IsJudged stored replicas replica rows b → a ≡ b
one_judged stored replicas replica rows (Ok v) (Ok w) h k = ap (λ x. Ok x) (h.1 ∙ sym k.1)
one_judged stored replicas replica rows (Ok v) (Err w) h (cause, none, is) =
    absurd (told_cause cause is (refusal_is_exact stored replicas cause none h.0))
one_judged stored replicas replica rows (Err v) (Ok w) (cause, none, is) k =
    absurd (told_cause cause is (refusal_is_exact stored replicas cause none k.0))
one_judged stored replicas replica rows (Err v) (Err w) (c, x, p) (d, y, q) =
    let same = one_cause stored replicas c d (told_cause c p) (told_cause d q) x y in
    let why : Some v ≡ Some w = sym p ∙ ap start_refusal same ∙ q in
    let e : v ≡ w = cc in ap (λ r. Err r) e
