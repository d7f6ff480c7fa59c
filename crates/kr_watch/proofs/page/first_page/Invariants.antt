-- What the loop of `first_page` keeps.
use Rattle.std.proofs.Common.{◌≤◌, length}
use Rattle.kr_watch.specs.inner.Keyed.{items_in}
use Rattle.kr_watch.proofs.PageFacts.{AreFound}
use Rattle.kr_watch.proofs.page.first_page.Given as goal

abbrev pub invariant-loop-path : goal.invariant-loop-path
invariant-loop-path l =
    AreFound l.resource (items_in l.initial.above) l.items.0 (items_in l.above)
    × (length l.items.0 ≤ l.limit)

abbrev pub decreases-loop-path : goal.decreases-loop-path
decreases-loop-path l = length l.above
