-- `walk_path`: the last row's path is lent.
use Rattle.std.proofs.Common.{◌<◌, length, sym, ◌∙◌, ap}
use Rattle.std.proofs.lemmas.Bool.{ltb-true}
use Rattle.kr_store.specs.declared.rows.Row.{Row}
use Rattle.kr_cmd_fleet.proofs.FirstReads.{end_is}
use Rattle.kr_cmd_fleet.proofs.watch_start.walk_path.Goals as goal

pub returns-in-Some : goal.returns-in-Some
returns-in-Some c =
    let passed = c.args.passed.now in
    let last = c.in-Some.ensures.item in
    let some : 0 < length passed = ltb-true 0 (length passed) (sym last.0) in
    c.as_str.ensures ∙ ap (λ (row : Row). row.path) c.get.ensures
    ∙ end_is passed c.in-Some.row.now some last.1
