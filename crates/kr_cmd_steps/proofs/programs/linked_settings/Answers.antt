-- `linked_settings`: what both parts of it did.
use Rattle.std.proofs.Common.{inl, inr}
use Rattle.kr_config.specs.Kept.{rows_of}
use Rattle.kr_cmd_steps.specs.Phases.{configuration}
use Rattle.kr_cmd_steps.proofs.RunTo.{by_bytes}
use Rattle.kr_cmd_steps.proofs.programs.linked_settings.Goals as goal

pub returns-in-Err-clause-does : goal.returns-in-Err-clause-does
returns-in-Err-clause-does g c =
    inl (λ a. by_bytes configuration c.as_str.ensures (c.in-Err.ensures.does a))

pub returns-in-Err-settings_programs-clause-does : goal.returns-in-Err-settings_programs-clause-does
returns-in-Err-settings_programs-clause-does g c = inr (
  rows_of c.in-Ok.settings.entries.0,
  λ a. by_bytes configuration c.as_str.ensures (c.in-Ok.ensures.does a),
  c.in-Err-settings_programs.ensures.does,
)

pub returns-clause-does : goal.returns-clause-does
returns-clause-does g c = (
  λ a. by_bytes configuration c.as_str.ensures (c.in-Ok.ensures.does a),
  c.in-Ok-settings_programs.ensures.does,
)
