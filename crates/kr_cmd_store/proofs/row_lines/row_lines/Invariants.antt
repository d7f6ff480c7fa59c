use Rattle.kr_cmd_steps.specs.inner.Tapes.{walk_path}
use Rattle.kr_opening.proofs.Walking.{left_after}
use Rattle.kr_cmd_store.proofs.Walk.{IsShown}
use Rattle.kr_cmd_store.proofs.row_lines.row_lines.Given as goal

abbrev pub invariant-loop-row : goal.invariant-loop-row
invariant-loop-row g l = IsShown l.store.rows (walk_path l.last) l.text.items

abbrev pub decreases-loop-row : goal.decreases-loop-row
decreases-loop-row g l = left_after (walk_path l.last) l.store.rows
