-- What the tactic leaves open of `put_in_order`.
use Rattle.std.proofs.lemmas.List.Filters.{dedup_is}
use Rattle.kr_config.proofs.Orders.{in_order, same_members}
use Rattle.kr_config.proofs.class_table.put_in_order.Goals as goal

pub returns-clause-ascends : goal.returns-clause-ascends
returns-clause-ascends c = in_order c.args.classes.now.items c.sort_unstable.new.self.items _
    c.sort_unstable.ensures.permutation c.sort_unstable.ensures.sorted
    (dedup_is _ _ _ c.dedup.ensures.filtered)

pub returns-clause-members : goal.returns-clause-members
returns-clause-members c = same_members c.args.classes.now.items c.sort_unstable.new.self.items _
    c.sort_unstable.ensures.permutation (dedup_is _ _ _ c.dedup.ensures.filtered)
