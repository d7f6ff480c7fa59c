-- The item at a path.
use Rattle.std.proofs.Common.{List, ap, ◌∙◌}
use Rattle.kr_watch.specs.declared.item.Item.{Item}
use Rattle.kr_watch.specs.Shown.{item_at}
use Rattle.kr_watch.proofs.Entries.{found}
use Rattle.kr_watch.proofs.item_list.ItemList.get.Goals as goal

pub returns : goal.returns
returns c = c.get.ensures.value
    ∙ found c.self.inside.items.entries c.args.path.now c.self.invariant.keyed
    ∙ ap (λ (l : List Item). item_at l c.args.path.now) c.self.view_is
