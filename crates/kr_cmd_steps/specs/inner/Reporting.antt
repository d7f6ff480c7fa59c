-- What a command reported, and what is around it once it did.
use Rattle.std.specs.Prelude.{Option, None, Some, Result, ℕ, List, []}
use Rattle.kr_cmd_steps.specs.Environment.{Environment, IsHome, step_state, with_what_is_said}
use Rattle.kr_cmd_steps.specs.Ran.{EndsAll}
use Rattle.kr_cmd_messages.specs.declared.command.Command.{Command}
use Rattle.kr_cmd_messages.specs.declared.refusal.Outcome.{Outcome}
use Rattle.kr_cmd_messages.specs.declared.refusal.Stop.{Stop}
use Rattle.kr_cmd_messages.specs.Reports.{report_text}
use Rattle.kr_cmd_messages.specs.declared.report.RewriteCounts.{RewriteCounts}

-- a command that reported said this last
abbrev pub saying : Option RewriteCounts → Environment → Environment
saying None a = a
saying (Some counts) a = with_what_is_said (report_text counts) a

-- what is written of a report where a command stopped
abbrev pub said_text : Option RewriteCounts → List ℕ
said_text None = []
said_text (Some counts) = report_text counts

-- a command from its first step on
pub record DoesAll (command : Command) (old new : Environment) (made : Result Outcome Stop)
    : Type 0 where
  pub home : IsHome old new
  pub ends : EndsAll command (step_state old) old new made
