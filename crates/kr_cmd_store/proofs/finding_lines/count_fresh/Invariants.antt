-- `count_fresh`: those so far.
use Rattle.std.proofs.Common.{◌≡◌, ◌≤◌, take}
use Rattle.std.specs.List.{count_by}
use Rattle.kr_cmd_steps.specs.RowFindings.{found_fresh}
use Rattle.kr_cmd_store.proofs.finding_lines.count_fresh.Given as goal

abbrev pub invariant-loop-finding : goal.invariant-loop-finding
invariant-loop-finding l =
    (l.fresh ≡ count_by found_fresh (take l.finding-index l.findings)) × (l.fresh ≤ l.finding-index)
