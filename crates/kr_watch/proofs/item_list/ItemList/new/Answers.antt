-- No items are in order.
use Rattle.std.proofs.Common.{sym, subst}
use Rattle.kr_watch.specs.inner.Keyed.{AreKept}
use Rattle.kr_watch.proofs.Entries.{none_kept}
use Rattle.kr_watch.proofs.item_list.ItemList.new.Goals as goal

pub invariant_of-result : goal.invariant_of-result
invariant_of-result c = subst AreKept (sym c.new.ensures.empty) none_kept
