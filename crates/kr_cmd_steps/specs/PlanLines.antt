-- What `plan` writes: the moves of a rollout, or settings of it.
use Rattle.std.specs.Prelude.{◌≡◌, ℕ, List, [], ◌++◌, codes, decimal, map, Option, None, Some, Result, Ok, Err}
use Rattle.std.specs.List.{concat}
use Rattle.kr_config.specs.Kept.{ConfigEntry}
use Rattle.kr_config.specs.Texts.{settings_text}
use Rattle.kr_config.specs.declared.refusal.ConfigNo.TheVariants as config
use Rattle.kr_judge.specs.Texts.{class_text, who_text}
use Rattle.kr_judge.specs.Verdicts.{first}
use Rattle.kr_plan.specs.Merges.{wide_rows, turned_rows}
use Rattle.kr_plan.specs.Plans.{replica_moves, reasons}
use Rattle.kr_plan.specs.declared.moves.Phase.{Phase}
use Rattle.kr_plan.specs.declared.moves.Phase.TheVariants as phase
use Rattle.kr_plan.specs.declared.moves.Move.{Move}
use Rattle.kr_plan.specs.declared.moves.Move.TheVariants.{Reload, Rewrite}
use Rattle.kr_plan.specs.declared.refusal.PlanNo.{PlanNo}
use Rattle.kr_plan.specs.declared.refusal.PlanNo.TheVariants.{SecretClash, TooMany, NoMemory}
use Rattle.kr_cmd_messages.specs.Texts.{line}
use Rattle.kr_cmd_messages.specs.declared.command.Planning.{Planning}
use Rattle.kr_cmd_messages.specs.declared.command.ShownSettings.{ShownSettings}
use Rattle.kr_cmd_messages.specs.declared.command.ShownSettings.TheVariants.{Wide, Turned}
use Rattle.kr_cmd_messages.specs.declared.refusal.Refusal.{Refusal}
use Rattle.kr_cmd_messages.specs.declared.refusal.Refusal.TheVariants.{Configuration, Clash}

abbrev pub phase_text : Phase → List ℕ
phase_text phase.Wide = codes "wide"
phase_text phase.Turned = codes "turned"
phase_text phase.Target = codes "to"

abbrev pub move_text : Move → List ℕ
move_text (Reload replica phase) =
    codes "reload " ++ (decimal replica ++ (codes " " ++ phase_text phase))
move_text Rewrite = codes "rewrite"

-- a line for each move
abbrev pub move_lines : List Move → List ℕ
move_lines moves = concat (map (λ step. line (move_text step)) moves)

-- the moves, or the settings that are to be shown, as the text of a configuration
abbrev pub plan_text : (from to : List ConfigEntry) → ℕ → Option ShownSettings → List ℕ
plan_text from to replicas None = move_lines (replica_moves replicas)
plan_text from to replicas (Some Wide) = line (settings_text (wide_rows from to))
plan_text from to replicas (Some Turned) = line (settings_text (turned_rows from to))

-- a limit that the wide settings pass is told as one that a configuration in a file passes
abbrev pub plan_refusal : PlanNo → Option Refusal
plan_refusal (SecretClash class who) =
    Some (Clash (class_text class ++ (codes " " ++ who_text who)))
plan_refusal (TooMany counted number) = Some (Configuration (config.Limit counted))
plan_refusal NoMemory = None

-- what is shown where there is no reason against the plan, and else the first reason
abbrev pub ShowsPlan : Planning → (from to : List ConfigEntry) → Result (List ℕ) Refusal → Type 0
ShowsPlan words from to (Ok text) =
    (reasons from to ≡ []) × (text ≡ plan_text from to words.replicas words.shown)
ShowsPlan words from to (Err why) = (cause : PlanNo) × (first (reasons from to) ≡ Some cause)
    × (plan_refusal cause ≡ Some why)
