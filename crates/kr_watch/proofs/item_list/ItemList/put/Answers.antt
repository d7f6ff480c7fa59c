-- An item at its place.
use Rattle.std.proofs.Common.{sym, ◌∙◌, ap, subst, List, Some}
use Rattle.kr_watch.specs.Shown.{ChangesItem}
use Rattle.kr_watch.specs.declared.item.Item.{Item}
use Rattle.kr_watch.specs.inner.Keyed.{items_in}
use Rattle.kr_watch.proofs.Entries.{put_changes, put_kept}
use Rattle.kr_watch.proofs.item_list.ItemList.put.Goals as goal

pub invariant_of-self : goal.invariant_of-self
invariant_of-self c =
    let key_is = c.in_ok-key.ensures ∙ c.as_str.ensures ∙ ap (λ (i : Item). i.path) c.get.ensures in
    put_kept c.self.inside.items.entries c.insert.new.self.entries c.in_ok-key.key c.args.item
    c.self.invariant key_is c.in-Ok.ensures.entries c.insert.ensures.ordered

pub returns-in-Ok-clause-ok : goal.returns-in-Ok-clause-ok
returns-in-Ok-clause-ok c =
    let key_is = c.in_ok-key.ensures ∙ c.as_str.ensures ∙ ap (λ (i : Item). i.path) c.get.ensures in
    subst (λ (l : List Item). ChangesItem c.args.item.path (Some c.args.item) l
    (items_in c.insert.new.self.entries)) c.self.view_is
    (subst (λ l. ChangesItem c.args.item.path (Some c.args.item)
    (items_in c.self.inside.items.entries) (items_in l)) (sym c.in-Ok.ensures.entries)
    (put_changes c.self.inside.items.entries c.in_ok-key.key c.args.item
    c.self.invariant.keyed key_is))
