-- `copy_put`: a put with its check.
use Rattle.std.proofs.Common.{refl, subst, sym}
use Rattle.std.specs.Prelude.{IfOk}
use Rattle.kr_config.specs.Kept.{rows_of}
use Rattle.kr_cmd_steps.specs.inner.Tapes.{HasOneMore, stored_of}
use Rattle.kr_cmd_store.proofs.Copying.{as_line, line_is}
use Rattle.kr_cmd_store.proofs.migration.copy_put.Goals as goal

pub returns-clause-does : goal.returns-clause-does
returns-clause-does g c name a =
    as_line name (stored_of c.args.target.now) c.add_row.result
    (line_is (rows_of c.args.settings.now.entries.0) c.args.row.now
    c.args.target.now.format c.requires.format refl refl refl c.as_str.ensures
    c.resource_list-list.ensures c.as_slice.ensures c.reader_check-check.ensures)
    (c.add_row.ensures.does name a)

pub returns-clause-grown : goal.returns-clause-grown
returns-clause-grown g c =
    subst (λ l. IfOk c.add_row.result
    (λ done. HasOneMore l c.args.target.now c.add_row.new.target))
    (sym (line_is (rows_of c.args.settings.now.entries.0) c.args.row.now
    c.args.target.now.format c.requires.format refl refl refl c.as_str.ensures
    c.resource_list-list.ensures c.as_slice.ensures c.reader_check-check.ensures))
    c.add_row.ensures.grown
