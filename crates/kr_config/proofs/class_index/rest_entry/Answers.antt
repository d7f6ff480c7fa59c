-- What the tactic leaves open of `rest_entry`.
use Rattle.kr_config.proofs.ClassIndexes.{rest_there}
use Rattle.kr_config.proofs.class_index.rest_entry.Goals as goal

pub unreachable-requires : goal.unreachable-requires
unreachable-requires c = rest_there c.args.index.now c.requires c.in-None.ensures.none
