-- What a call of `plan` printed: its steps, taken apart.
use Rattle.std.proofs.Common.{◌≡◌, ℕ, Bool, true, false, List, Option, None, Some, Ok, Err, IsTrue, refl, sym, ◌∙◌, ap, subst, inl, inr}
use Rattle.std.specs.Io.KnownBytes.{Appends}
use Rattle.std.specs.Str.{is_utf8}
use Rattle.kr_base.specs.Told.{Agrees}
use Rattle.kr_config.specs.Kept.{ConfigEntry, keeps}
use Rattle.kr_config.specs.Meanings.{MeansBy, MeansConfig, begins_json}
use Rattle.kr_config.proofs.Meant.{text_kept}
use Rattle.kr_plan_laws.proofs.MovesDone.{moves_lead}
use Rattle.kr_cmd_messages.specs.Command.{Asks}
use Rattle.kr_cmd_messages.specs.Receipts.{Receipt}
use Rattle.kr_cmd_messages.specs.declared.command.Command.TheVariants.{Plan}
use Rattle.kr_cmd_messages.specs.declared.command.Planning.{Planning}
use Rattle.kr_cmd_messages.specs.declared.refusal.Outcome.{Outcome}
use Rattle.kr_cmd_messages.proofs.OneCommand.{one_command}
use Rattle.kr_cmd_steps.specs.Configuration.{IsConfiguration}
use Rattle.kr_cmd_steps.specs.Commands.{steps}
use Rattle.kr_cmd_steps.specs.Environment.{Environment, step_state}
use Rattle.kr_cmd_steps.specs.Phases.{configuration, show}
use Rattle.kr_cmd_steps.specs.PlanLines.{ShowsPlan, plan_text}
use Rattle.kr_cmd_steps.specs.Ran.{GivesWith}
use Rattle.kr_cmd_steps.specs.Steps.{RunTo, StepState, and_then, gives}
use Rattle.kr_cmd_steps.proofs.Ends.{value_end}
use Rattle.kr_cmd_laws.specs.PlanLaws.{WasRead, PrintsPlan, PlansArePrinted}
use Rattle.kr_cmd_laws.proofs.Joints.{joint, no_value, one_value}
use Rattle.kr_cmd_laws.proofs.Readings.{readings}

-- ---- a configuration that was read keeps the rules

by_text : (is_text : Bool) (bytes : List ℕ) (rows : List ConfigEntry)
    → MeansBy is_text bytes (Ok rows) → IsTrue (keeps rows)
by_text true bytes rows means = text_kept (begins_json bytes) bytes rows means
by_text false bytes rows means = absurd (let e = means in cc)

read_kept : (name : List ℕ) (file : Option (List ℕ)) (rows : List ConfigEntry)
    → IsConfiguration name file (Ok rows) → IsTrue (keeps rows)
read_kept name None rows is = absurd (let e = is in cc)
read_kept name (Some bytes) rows (inl (long, is)) = absurd (let e = is in cc)
read_kept name (Some bytes) rows (inr (short, Err why, means, is)) = absurd (let e = is in cc)
read_kept name (Some bytes) rows (inr (short, Ok read, means, is)) =
    let same : rows ≡ read = let e = is in cc in
    by_text (is_utf8 bytes) bytes rows
    (subst (λ r. MeansConfig bytes (Ok r)) (sym same) means)

-- ---- the steps

module _ (old : Environment) where
  -- a configuration that was given, where the files are as before
  was_read : (name : List ℕ) (rows : List ConfigEntry) (end left : StepState)
      → left.file ≡ old.world.file → RunTo (gives rows) end (configuration name) left
      → WasRead old name rows × (end.file ≡ old.world.file)
  was_read name rows end left stays (inl at) = absurd (no_value at refl)
  was_read name rows end left stays (inr (inl at)) = absurd (no_value at refl)
  was_read name rows end left stays (inr (inr (file, agrees, inl at))) = absurd (no_value at refl)
  was_read name rows end left stays (inr (inr (file, agrees, inr (Err why, is, at)))) =
      absurd (no_value at refl)
  was_read name rows end left stays (inr (inr (file, agrees, inr (Ok read, is, at)))) = (
    record {
      file = file;
      told = subst (λ files. Agrees (files name) file) stays agrees;
      means = subst (λ r. IsConfiguration name file (Ok r)) (sym (one_value at)) is;
    },
    ap (λ (l : StepState). l.file) at.1 ∙ stays,
  )

  -- what is shown
  was_shown : (words : Planning) (from to : List ConfigEntry) (made : Outcome)
      (end left : StepState) → RunTo (gives made) end (show (ShowsPlan words from to)) left
      → made.bytes ≡ plan_text from to words.replicas words.shown
  was_shown words from to made end left (inl at) = absurd (no_value at refl)
  was_shown words from to made end left (inr (Err why, is, at)) = absurd (no_value at refl)
  was_shown words from to made end left (inr (Ok text, is, at)) =
      ap (λ (x : Outcome). x.bytes) (one_value at) ∙ is.1

  planned : (words : Planning) (output : Receipt) (made : Outcome) (end : StepState)
      → RunTo (gives made) end (steps (Plan words)) (step_state old)
      → Appends output.old output.new made.bytes → PrintsPlan words old output
  planned words output made end goes printed =
      let first = joint (λ from. and_then (configuration words.to)
      (λ to. show (ShowsPlan words from to))) made end (configuration words.from) (step_state old)
      goes in
      let from : List ConfigEntry = first.0 in
      let second = joint (λ to. show (ShowsPlan words from to)) made end
      (configuration words.to) first.1 first.3 in
      let to : List ConfigEntry = second.0 in
      let one = was_read words.from from first.1 (step_state old) refl first.2 in
      let two = was_read words.to to second.1 first.1 one.1 second.2 in record {
        from = from;
        to = to;
        from_file = one.0;
        to_file = two.0;
        printed = subst (λ bytes. Appends output.old output.new bytes)
            (was_shown words from to made end second.1 second.3) printed;
        lead = moves_lead from to words.replicas
            (read_kept words.from one.0.file from one.0.means)
            (read_kept words.to two.0.file to two.0.means);
      }

-- ---- the call

by_value : (words : List (List ℕ)) (old new : Environment) (output errors : Receipt)
    (asked : Planning) → Asks words (Plan asked) → GivesWith words old new output errors 0
    → PrintsPlan asked old output
by_value words old new output errors asked asks (made, (said, comes), done, printed, line) =
    let end = value_end comes.reaches in
    planned old asked output made end.end
    (subst (λ command. RunTo (gives made) end.end (steps command) (step_state old))
    (one_command comes.asks asks) end.goes)
    printed

pub plan_is_printed : PlansArePrinted
plan_is_printed words old new output errors status ran asked asks zero =
    by_value words old new output errors asked asks
    ((readings words old new output errors status ran.result ran.answers ran.tells).done zero)
