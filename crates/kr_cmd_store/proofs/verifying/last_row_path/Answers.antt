-- `last_row_path`: the last row is there, and its path is lent.
use Rattle.std.proofs.Common.{◌<◌, length, None, sym, ◌∙◌, ap}
use Rattle.std.proofs.lemmas.Bool.{ltb-true}
use Rattle.kr_store.specs.declared.rows.Row.{Row}
use Rattle.kr_cmd_steps.specs.inner.Tapes.{walk_path}
use Rattle.kr_cmd_store.proofs.LiveRows.{last_is}
use Rattle.kr_cmd_store.proofs.verifying.last_row_path.Goals as goal

pub returns-in-Some : goal.returns-in-Some
returns-in-Some c =
    let rows = c.args.rows.now in
    let last = c.in-Some.ensures.item in
    let some : 0 < length rows = ltb-true 0 (length rows) (sym last.0) in
    c.as_str.ensures ∙ ap (λ (row : Row). row.path) (c.get.ensures ∙ last.1)
    ∙ ap walk_path (sym (last_is None rows c.in-Some.row.now some))
