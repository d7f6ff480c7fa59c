-- What the tactic leaves open of `entry_place`.
use Rattle.kr_config.specs.Nexts.{lent_class}
use Rattle.kr_config.proofs.ClassIndexes.{listed}
use Rattle.kr_config.proofs.class_index.entry_place.Goals as goal

pub returns-in-Some : goal.returns-in-Some
returns-in-Some c = λ rows indexed.
    listed rows c.args.index.now (lent_class c.args.class) c.in-Some.entry indexed
    c.in-Some.ensures.some
