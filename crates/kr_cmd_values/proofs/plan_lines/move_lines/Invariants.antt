use Rattle.std.proofs.Common.{◌≡◌, ◌++◌, drop}
use Rattle.kr_cmd_steps.specs.PlanLines.{move_lines}
use Rattle.kr_cmd_values.proofs.plan_lines.move_lines.Given as goal

abbrev pub invariant-loop-step : goal.invariant-loop-step
invariant-loop-step l = l.text.items
    ++ move_lines (drop l.step-index l.moves) ≡ move_lines l.moves
