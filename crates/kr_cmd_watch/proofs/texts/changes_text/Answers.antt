-- `changes_text`: one more change's line.
use Rattle.std.proofs.Common.{[], codes, ◌++◌, ◌∙◌, ap}
use Rattle.kr_cmd_watch.specs.WatchTexts.{change_line}
use Rattle.kr_cmd_watch.proofs.PageTexts.{lines_all, lines_more, lines_none}
use Rattle.kr_cmd_watch.proofs.texts.changes_text.Goals as goal

pub loop-change-init : goal.loop-change-init
loop-change-init c =
    lines_none change_line [] c.new-text.result.items c.args.changes.now c.new-text.ensures.items

pub loop-change-preserved : goal.loop-change-preserved
loop-change-preserved c = lines_more change_line [] c.loop-change.text.items
    c.add_change.new.text.items c.args.changes.now c.loop-change.change-index
    c.change-item.result c.loop-change.invariant c.loop-change-test.true c.change-item.is
    (c.in_ok-add_change.ensures
    ∙ ap (λ one. c.loop-change.text.items ++ change_line one) c.get.ensures)

pub returns : goal.returns
returns c = c.in_ok-add.ensures.added ∙ ap (λ t. t ++ codes "end\n")
    (lines_all change_line [] c.loop-change.text.items c.args.changes.now
    c.loop-change.change-index c.loop-change.invariant c.loop-change-test.false)
