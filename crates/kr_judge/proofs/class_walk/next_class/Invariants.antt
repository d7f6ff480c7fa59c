use Rattle.std.specs.Option.{option_map}
use Rattle.kr_config.specs.Kept.{rows_of}
use Rattle.kr_config.specs.Nexts.{lent_class}
use Rattle.kr_judge.proofs.Raw.{IsRaw}
use Rattle.kr_judge.proofs.class_walk.next_class.Given as goal

abbrev pub invariant-loop-number : goal.invariant-loop-number
invariant-loop-number l = IsRaw (rows_of l.settings.entries.0) l.generations.generations l.number-index (option_map lent_class l.after) (option_map lent_class l.next)
