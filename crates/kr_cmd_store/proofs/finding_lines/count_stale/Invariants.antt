-- `count_stale`: those so far.
use Rattle.std.proofs.Common.{◌≡◌, ◌≤◌, take}
use Rattle.std.specs.List.{count_by}
use Rattle.kr_cmd_steps.specs.RowFindings.{is_stale}
use Rattle.kr_cmd_store.proofs.finding_lines.count_stale.Given as goal

abbrev pub invariant-loop-finding : goal.invariant-loop-finding
invariant-loop-finding l =
    (l.stale ≡ count_by is_stale (take l.finding-index l.findings)) × (l.stale ≤ l.finding-index)
