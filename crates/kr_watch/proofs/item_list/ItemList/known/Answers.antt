-- The items are in order.
use Rattle.std.proofs.Common.{subst}
use Rattle.kr_watch.specs.Shown.{AreInOrder}
use Rattle.kr_watch.proofs.Entries.{items_in_order}
use Rattle.kr_watch.proofs.item_list.ItemList.known.Goals as goal

pub returns : goal.returns
returns c = subst AreInOrder c.self.view_is
    (items_in_order c.self.inside.items.entries c.self.invariant)
