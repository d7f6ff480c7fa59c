-- `count_refused`: those so far.
use Rattle.std.proofs.Common.{◌≡◌, ◌≤◌, take}
use Rattle.std.specs.List.{count_by}
use Rattle.kr_cmd_steps.specs.RowFindings.{is_refused}
use Rattle.kr_cmd_store.proofs.finding_lines.count_refused.Given as goal

abbrev pub invariant-loop-finding : goal.invariant-loop-finding
invariant-loop-finding l =
    (l.refused ≡ count_by is_refused (take l.finding-index l.findings))
    × (l.refused ≤ l.finding-index)
