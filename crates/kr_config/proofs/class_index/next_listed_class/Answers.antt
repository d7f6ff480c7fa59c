-- What the tactic leaves open of `next_listed_class`.
use Rattle.std.proofs.Common.{Some, subst, sym, arith, map}
use Rattle.std.specs.Option.{option_map}
use Rattle.kr_config.specs.Nexts.{lent_class, IsNextClass}
use Rattle.kr_config.specs.inner.ClassIndexes.{class_at}
use Rattle.kr_config.proofs.ClassSearches.{next_here, next_none, lent_is}
use Rattle.kr_config.proofs.class_index.next_listed_class.Goals as goal

pub returns : goal.returns
returns c =
    subst (λ class. IsNextClass (map class_at c.args.index.now) (option_map lent_class c.args.after)
    (Some class)) (sym (lent_is c.args.index.now c.next_class_place-place.result
    c.index-index-place.result (lent_class c.borrowed.result) c.index-index-place.is
    c.borrowed.ensures))
    (next_here c.args.index.now (option_map lent_class c.args.after) c.next_class_place-place.result
    c.index-index-place.result c.requires c.next_class_place-place.ensures
    (let within = c.next_class_place-place.ensures.within in omega (arith, within))
    c.index-index-place.is)

pub returns-then-place-index : goal.returns-then-place-index
returns-then-place-index c =
    next_none c.args.index.now (option_map lent_class c.args.after) c.next_class_place-place.result
    c.next_class_place-place.ensures (omega arith)
