-- What `plan` prints is the plan that kr_plan_laws speaks of.
use Rattle.std.specs.Prelude.{◌≡◌, ℕ, List, Option, Ok}
use Rattle.std.specs.Io.KnownBytes.{Appends}
use Rattle.kr_base.specs.Told.{Agrees}
use Rattle.kr_config.specs.Kept.{ConfigEntry}
use Rattle.kr_plan_laws.specs.MovesDone.{MovesLead}
use Rattle.kr_cmd_messages.specs.Command.{Asks}
use Rattle.kr_cmd_messages.specs.Receipts.{Receipt}
use Rattle.kr_cmd_messages.specs.declared.command.Command.TheVariants.{Plan}
use Rattle.kr_cmd_messages.specs.declared.command.Planning.{Planning}
use Rattle.kr_cmd_steps.specs.Configuration.{IsConfiguration}
use Rattle.kr_cmd_steps.specs.Environment.{Environment}
use Rattle.kr_cmd_steps.specs.PlanLines.{plan_text}
use Rattle.kr_cmd_steps.specs.Ran.{Ran}

-- the file of this name was read as these entries
pub record WasRead (old : Environment) (name : List ℕ) (rows : List ConfigEntry) : Type 0 where
  pub file : Option (List ℕ)
  pub told : Agrees (old.world.file name) file
  pub means : IsConfiguration name file (Ok rows)

-- From what the two files were read as: just the moves were printed, a line for each, or the
-- settings of a phase that the words name. And these moves, done one behind another, whatever else
-- is done meanwhile, are never refused and lead to `to`, and what `to` lists nowhere may go then
pub record PrintsPlan (words : Planning) (old : Environment) (output : Receipt) : Type 0 where
  pub from : List ConfigEntry
  pub to : List ConfigEntry
  pub from_file : WasRead old words.from from
  pub to_file : WasRead old words.to to
  pub printed : Appends output.old output.new (plan_text from to words.replicas words.shown)
  pub lead : MovesLead from to words.replicas

-- words that ask for a plan, and status 0
abbrev pub PlanIsPrinted : (words : List (List ℕ)) → (old : Environment) → (output : Receipt)
    → (status : ℕ) → Type 0
PlanIsPrinted words old output status = (asked : Planning) → Asks words (Plan asked) → status ≡ 0
    → PrintsPlan asked old output

abbrev pub PlansArePrinted : Type 0
PlansArePrinted = (words : List (List ℕ)) (old new : Environment) (output errors : Receipt)
    (status : ℕ) → Ran words old new output errors status
    → PlanIsPrinted words old output status
