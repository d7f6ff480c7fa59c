-- A path without an item.
use Rattle.std.proofs.Common.{sym, subst, List, None}
use Rattle.kr_watch.specs.Shown.{ChangesItem}
use Rattle.kr_watch.specs.declared.item.Item.{Item}
use Rattle.kr_watch.specs.inner.Keyed.{items_in}
use Rattle.kr_watch.proofs.Entries.{gone_changes, gone_kept}
use Rattle.kr_watch.proofs.item_list.ItemList.remove.Goals as goal

pub invariant_of-self : goal.invariant_of-self
invariant_of-self c = gone_kept c.self.inside.items.entries c.remove.new.self.entries
    c.args.path.now c.self.invariant c.remove.ensures.entries c.remove.ensures.ordered

pub returns : goal.returns
returns c =
    subst (λ (l : List Item). ChangesItem c.args.path.now None l
    (items_in c.remove.new.self.entries)) c.self.view_is
    (subst (λ l. ChangesItem c.args.path.now None (items_in c.self.inside.items.entries)
    (items_in l)) (sym c.remove.ensures.entries)
    (gone_changes c.self.inside.items.entries c.args.path.now c.self.invariant.keyed
    c.self.invariant.in_order))
