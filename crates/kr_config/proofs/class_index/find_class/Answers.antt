-- What the tactic leaves open of `find_class`.
use Rattle.std.proofs.Common.{subst}
use Rattle.kr_config.specs.Nexts.{lent_class}
use Rattle.kr_config.specs.inner.ClassIndexes.{StandsAt}
use Rattle.kr_config.proofs.class_index.find_class.Goals as goal

pub returns-then-place_holds_class : goal.returns-then-place_holds_class
returns-then-place_holds_class c =
    subst (StandsAt c.args.index.now (lent_class c.args.class) c.args.number) c.if-place_holds_class.true
    c.place_holds_class.ensures
