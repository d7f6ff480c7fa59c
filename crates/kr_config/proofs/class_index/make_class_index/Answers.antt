-- What the tactic leaves open of `make_class_index`.
use Rattle.std.proofs.Common.{◌∷◌, subst}
use Rattle.kr_config.specs.Kept.{rows_of}
use Rattle.kr_config.specs.inner.ClassIndexes.{ArePlaces}
use Rattle.kr_config.proofs.ClassIndexes.{index_made}
use Rattle.kr_config.proofs.class_index.make_class_index.Goals as goal

pub returns : goal.returns
returns c =
    let rows = rows_of c.args.entries.now in
    index_made rows c.in_ok-classes.classes.items c.put_in_order.new.classes.items
    c.in_ok-index.index.items c.in_ok-classes.ensures c.put_in_order.ensures.ascends
    c.put_in_order.ensures.members
    (subst (λ l. ArePlaces rows l c.in_ok-index.index.items) c.as_slice.ensures.value
    c.in_ok-index.ensures)
