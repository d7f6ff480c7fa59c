use Rattle.kr_cmd_store.proofs.Walk.{row_added}
use Rattle.kr_cmd_store.proofs.row_lines.add_row.Goals as goal

pub returns : goal.returns
returns c = row_added c.args.row.now c.args.text.now.items c.add_revision.new.text.items
    c.add_word.new.text.items c.add_word-2.new.text.items c.add_tag.new.text.items
    c.add.new.text.items c.add.result c.as_str.ensures c.as_str-2.ensures c.as_slice.ensures
    c.in_ok-add_revision.ensures c.in_ok-add_word.ensures c.in_ok-add_word-2.ensures
    c.in_ok-add_tag.ensures c.add.ensures.added
