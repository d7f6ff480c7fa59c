-- What the tactic leaves open of `place_holds_class`.
use Rattle.std.proofs.Common.{arith, is_eq}
use Rattle.kr_config.specs.Nexts.{lent_class}
use Rattle.kr_config.proofs.ClassSearches.{stands}
use Rattle.kr_config.proofs.class_index.place_holds_class.Goals as goal

pub returns : goal.returns
returns c =
    stands (lent_class c.args.class) c.args.index.now c.args.place c.index-index-place.result
    (lent_class c.borrowed.result) c.compare.result c.is_eq.result (omega arith)
    c.index-index-place.is c.borrowed.ensures c.compare.ensures c.is_eq.ensures
