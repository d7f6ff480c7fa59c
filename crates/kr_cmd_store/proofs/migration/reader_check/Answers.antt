-- `reader_check`: the reader is found by its place.
use Rattle.std.proofs.Common.{sym, ◌∙◌, ap}
use Rattle.kr_cmd_steps.specs.StoreSteps.{reader_check}
use Rattle.kr_cmd_store.proofs.MigratedRows.{reader_found, unread}
use Rattle.kr_cmd_store.proofs.migration.reader_check.Goals as goal

pub returns-in-Some : goal.returns-in-Some
returns-in-Some c = c.store_check.ensures
    ∙ ap reader_check (sym (reader_found c.args.list.now c.args.bytes.now c.in-Some.place _
    (sym c.find_reader.ensures ∙ c.in-Some.is) c.index-list-place.is))

pub returns-in-None : goal.returns-in-None
returns-in-None c = ap reader_check
    (sym (unread c.args.list.now c.args.bytes.now (sym c.find_reader.ensures ∙ c.in-None.is)))
