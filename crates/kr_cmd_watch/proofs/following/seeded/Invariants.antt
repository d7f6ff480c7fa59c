-- The first of the items were handed to the watch.
use Rattle.std.proofs.Common.{length}
use Rattle.kr_cmd_watch.specs.Watchings.{keep}
use Rattle.kr_cmd_watch.proofs.SeededItems.{IsSeeding}
use Rattle.kr_cmd_watch.proofs.following.seeded.Given as goal

abbrev pub invariant-loop-item : goal.invariant-loop-item
invariant-loop-item l =
    IsSeeding l.fn.items.0 keep l.revision l.items.0 l.watch

abbrev pub decreases-loop-item : goal.decreases-loop-item
decreases-loop-item l = length l.items.0
