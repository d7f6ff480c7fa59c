-- The lines of so many items stand behind the page's own.
use Rattle.std.proofs.Common.{length, ◌++◌, codes}
use Rattle.std.specs.Prelude.{decimal}
use Rattle.kr_script.specs.Output.{two}
use Rattle.kr_cmd_watch.specs.WatchTexts.{item_line, line}
use Rattle.kr_cmd_watch.proofs.PageTexts.{HasLines}
use Rattle.kr_cmd_watch.proofs.page_text.add_page.Given as goal

abbrev pub invariant-loop-item : goal.invariant-loop-item
invariant-loop-item l = HasLines item_line
    (l.fn.text.items ++ line (two (codes "page") (decimal (length l.items)))) l.items
    l.item-index l.text.items
