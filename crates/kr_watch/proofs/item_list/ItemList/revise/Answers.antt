-- An item with another revision.
use Rattle.std.proofs.Common.{◌∙◌, ap}
use Rattle.kr_watch.specs.Noting.{at_revision}
use Rattle.kr_watch.proofs.ItemSteps.{ok_then, revised_told}
use Rattle.kr_watch.proofs.item_list.ItemList.revise.Goals as goal

pub returns-in_ok-into_shared-in-Some-clause-ok :
    goal.returns-in_ok-into_shared-in-Some-clause-ok
returns-in_ok-into_shared-in-Some-clause-ok c =
    ok_then c.put.result _ _
    (revised_told c.args.self.now c.put.new.self c.args.path.now c.args.revision
    c.in-Some.item.now c.in_ok-into_shared-in-Some.field-0 c.in-Some.ensures
    (c.in_ok-into_shared-in-Some.ensures ∙ c.in_ok-item-in-Some.ensures
    ∙ ap (at_revision c.args.revision) c.get-in-Some.ensures))
    c.put.ensures.ok
