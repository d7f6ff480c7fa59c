-- `start`: the hand holds nothing yet.
use Rattle.test_rollout.proofs.Starting.{alone_begin, own_begin, seat_begin}
use Rattle.test_rollout.proofs.alone.Alone.start.Goals as goal

pub new-requires : goal.new-requires
new-requires c = record {
  own = own_begin c.args.terms.replicas.0 c.args.terms.reloads.items c.in-Ok.core c.in-Ok.ensures;
  seat = seat_begin c.args.terms.replicas.0 c.args.terms.reloads.items c.in-Ok.core c.in-Ok.ensures
      c.requires.3;
}

pub invariant_of-result : goal.invariant_of-result
invariant_of-result c = alone_begin c.args.terms.replicas.0 c.args.terms.reloads.items
    c.in-Ok.core c.new.result c.count-replicas.result c.first_budget-left.result c.in-Ok.ensures
    c.count-replicas.ensures c.first_budget-left.ensures c.new.ensures
