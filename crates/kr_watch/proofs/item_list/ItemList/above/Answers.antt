-- The items above a path.
use Rattle.std.proofs.Common.{ap, filter, ◌∙◌}
use Rattle.std.specs.String.{string_bytes}
use Rattle.kr_watch.specs.Pages.{is_above}
use Rattle.kr_watch.specs.inner.Keyed.{items_in}
use Rattle.kr_watch.proofs.Entries.{above_key}
use Rattle.kr_watch.proofs.item_list.ItemList.above.Goals as goal

pub returns : goal.returns
returns c = ap items_in (c.range.ensures.between tt)
    ∙ above_key c.self.inside.items.entries c.args.path.now c.self.invariant.keyed
    ∙ ap (filter (is_above (string_bytes c.args.path.now))) c.self.view_is
