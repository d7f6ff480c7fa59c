-- What the loop of `share_tail` keeps.
use Rattle.std.proofs.Common.{◌≡◌, ◌++◌, drop}
use Rattle.kr_watch.proofs.change_list.share_tail.Given as goal

abbrev pub invariant-loop-at : goal.invariant-loop-at
invariant-loop-at l = l.shared.0 ++ drop l.at l.changes.items ≡ drop l.place l.changes.items
