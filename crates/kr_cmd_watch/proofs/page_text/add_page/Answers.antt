-- `add_page`: the page's own line, and one more item's.
use Rattle.std.proofs.Common.{length, ◌++◌, codes, append_assoc, ◌∙◌, ap}
use Rattle.std.specs.Prelude.{decimal}
use Rattle.std.specs.List.{flat_map}
use Rattle.kr_script.specs.Output.{two}
use Rattle.kr_cmd_watch.specs.WatchTexts.{item_line, line}
use Rattle.kr_cmd_watch.proofs.PageTexts.{lines_all, lines_more, lines_none, page_head}
use Rattle.kr_cmd_watch.proofs.page_text.add_page.Goals as goal

pub loop-item-init : goal.loop-item-init
loop-item-init c = lines_none item_line
    (c.args.text.now.items ++ line (two (codes "page") (decimal (length c.args.items.now))))
    c.add-2.new.text.items c.args.items.now
    (page_head c.args.text.now.items c.add.new.text.items c.add_number.new.text.items
    c.add-2.new.text.items (length c.args.items.now) c.in_ok-add.ensures.added
    c.in_ok-add_number.ensures.added
    c.in_ok-add-2.ensures.added)

pub loop-item-preserved : goal.loop-item-preserved
loop-item-preserved c = lines_more item_line
    (c.args.text.now.items ++ line (two (codes "page") (decimal (length c.args.items.now))))
    c.loop-item.text.items c.add_item.new.text.items c.args.items.now c.loop-item.item-index
    c.item-item.result c.loop-item.invariant c.loop-item-test.true c.item-item.is
    (c.in_ok-add_item.ensures ∙ ap (λ i. c.loop-item.text.items ++ item_line i) c.get.ensures)

pub returns : goal.returns
returns c =
    let own = line (two (codes "page") (decimal (length c.args.items.now))) in
    lines_all item_line (c.args.text.now.items ++ own) c.loop-item.text.items c.args.items.now
    c.loop-item.item-index c.loop-item.invariant c.loop-item-test.false
    ∙ append_assoc c.args.text.now.items own (flat_map item_line c.args.items.now)
