use Rattle.std.proofs.Common.{sym, ap, ◌∙◌}
use Rattle.kr_config.specs.Kept.{rows_of}
use Rattle.kr_config.specs.Lists.{list_of}
use Rattle.kr_judge.specs.Boards.{set_need}
use Rattle.kr_provider.specs.Readers.{reader_place}
use Rattle.kr_opening.proofs.Walking.{reader_is, reader_none, note_stray}
use Rattle.kr_opening.proofs.opening_board.note.Goals as goal

pub returns-in_default : goal.returns-in_default
returns-in_default c =
    note_stray (rows_of c.args.first.now.entries.0) c.args.row.now c.args.board.now
    c.as_str-in_default.result.now c.stray.result c.stray.ensures c.as_str-in_default.ensures
    (reader_none (rows_of c.args.first.now.entries.0) c.resource_list-list.result.now
    c.args.row.now.resource c.args.row.now.stored
    (c.resource_list-list.ensures ∙ ap (list_of (rows_of c.args.first.now.entries.0)) c.as_str.ensures)
    (ap (reader_place c.resource_list-list.result.now) (sym c.as_slice.ensures) ∙ sym c.find_reader.ensures
    ∙ c.in_default.is))

pub returns-in-Ok : goal.returns-in-Ok
returns-in-Ok c = (
  c.index-list-place.result,
  reader_is (rows_of c.args.first.now.entries.0) c.resource_list-list.result.now c.args.row.now.resource
      c.args.row.now.stored c.in-Some.place c.index-list-place.result
      (c.resource_list-list.ensures ∙ ap (list_of (rows_of c.args.first.now.entries.0)) c.as_str.ensures)
      (ap (reader_place c.resource_list-list.result.now) (sym c.as_slice.ensures)
      ∙ sym c.find_reader.ensures ∙ c.in-Some.is)
      c.index-list-place.is,
  c.keeps_check.ensures,
  c.in-Ok.ensures.ok ∙ (λ i. record c.args.board.now {
    needs = set_need c.args.board.now.needs
        (record {
          path = c.args.row.now.path;
          resource = c.as_str-2.ensures i;
          who =
              c.index-list-place.result;
        });
  }),
)
