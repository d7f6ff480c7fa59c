-- `walk_path`: the path of the row, where there is one.
use Rattle.std.proofs.Common.{sym, ap, ◌∙◌}
use Rattle.kr_store.specs.declared.rows.Row.{Row}
use Rattle.kr_opening.specs.inner.OpeningBoards.{walk_path}
use Rattle.kr_opening.proofs.opening_board.walk_path.Goals as goal

pub returns-in-Some : goal.returns-in-Some
returns-in-Some c = c.as_str.ensures ∙ ap (λ (r : Row). r.path) c.get.ensures
    ∙ sym (ap walk_path c.in-Some.is)

pub returns-in-None : goal.returns-in-None
returns-in-None c = sym (ap walk_path c.in-None.is)
