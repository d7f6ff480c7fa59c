-- The lines of so many changes.
use Rattle.std.proofs.Common.{[]}
use Rattle.kr_cmd_watch.specs.WatchTexts.{change_line}
use Rattle.kr_cmd_watch.proofs.PageTexts.{HasLines}
use Rattle.kr_cmd_watch.proofs.texts.changes_text.Given as goal

abbrev pub invariant-loop-change : goal.invariant-loop-change
invariant-loop-change l = HasLines change_line [] l.changes l.change-index l.text.items
