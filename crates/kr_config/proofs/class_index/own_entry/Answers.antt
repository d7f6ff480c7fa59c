-- What the tactic leaves open of `own_entry`.
use Rattle.kr_config.specs.Nexts.{lent_class}
use Rattle.kr_config.proofs.ClassSearches.{own_absent}
use Rattle.kr_config.proofs.class_index.own_entry.Goals as goal

pub returns-in-Err-clause-none : goal.returns-in-Err-clause-none
returns-in-Err-clause-none c =
    own_absent c.args.index.now (lent_class c.args.class) c.in-Err.field-0 c.in-Err.ensures
