-- `live_rows`: so many rows were passed.
use Rattle.std.proofs.Common.{None}
use Rattle.std.specs.List.{last_or}
use Rattle.kr_cmd_steps.specs.inner.Tapes.{walk_path}
use Rattle.kr_opening.proofs.Walking.{left_after}
use Rattle.kr_cmd_store.proofs.LiveRows.{AreKept}
use Rattle.kr_cmd_store.proofs.verifying.live_rows.Given as goal

abbrev pub invariant-loop-row : goal.invariant-loop-row
invariant-loop-row g l = AreKept l.store.rows l.rows.0

abbrev pub decreases-loop-row : goal.decreases-loop-row
decreases-loop-row g l = left_after (walk_path (last_or None l.rows.0)) l.store.rows
