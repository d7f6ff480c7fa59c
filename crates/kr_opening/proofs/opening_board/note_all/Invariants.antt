use Rattle.kr_config.specs.Kept.{rows_of}
use Rattle.kr_opening.specs.inner.OpeningBoards.{walk_path}
use Rattle.kr_opening.proofs.Walking.{IsWalked, left_after}
use Rattle.kr_opening.proofs.opening_board.note_all.Given as goal

abbrev pub invariant-loop-row : goal.invariant-loop-row
invariant-loop-row g l =
    IsWalked (rows_of l.first.entries.0) l.store.rows l.initial.board (walk_path l.last) l.board l.other

abbrev pub decreases-loop-row : goal.decreases-loop-row
decreases-loop-row g l = left_after (walk_path l.last) l.store.rows
