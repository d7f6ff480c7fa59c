-- `add_lines`: the lines so far.
use Rattle.std.proofs.Common.{◌≡◌, ◌++◌, take}
use Rattle.kr_cmd_steps.specs.RowFindings.{finding_lines}
use Rattle.kr_cmd_store.proofs.finding_lines.add_lines.Given as goal

abbrev pub invariant-loop-at : goal.invariant-loop-at
invariant-loop-at l = l.text.items
    ≡ l.initial.text.items ++ finding_lines (take l.at l.rows) (take l.at l.findings)
