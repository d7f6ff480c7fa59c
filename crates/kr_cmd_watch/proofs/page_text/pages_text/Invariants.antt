-- Pages were taken up to a path.
use Rattle.std.proofs.Common.{length}
use Rattle.kr_watch.specs.Pages.{items_above}
use Rattle.kr_cmd_watch.proofs.PageTexts.{IsTaking}
use Rattle.kr_cmd_watch.proofs.page_text.pages_text.Given as goal

abbrev pub invariant-loop-after : goal.invariant-loop-after
invariant-loop-after l = IsTaking l.resource l.limit l.watch.items l.after l.text.items

abbrev pub decreases-loop-after : goal.decreases-loop-after
decreases-loop-after l = length (items_above l.watch.items l.resource l.after)
