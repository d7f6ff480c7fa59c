-- The rows up to the last one.
use Rattle.kr_opening.proofs.Walking.{left_after}
use Rattle.kr_cmd_fleet.proofs.FirstReads.{IsPassed, end_of}
use Rattle.kr_cmd_fleet.proofs.watch_start.live_rows.Given as goal

abbrev pub invariant-loop-row : goal.invariant-loop-row
invariant-loop-row g l = IsPassed l.store.rows l.rows.0

abbrev pub decreases-loop-row : goal.decreases-loop-row
decreases-loop-row g l = left_after (end_of l.rows.0) l.store.rows
