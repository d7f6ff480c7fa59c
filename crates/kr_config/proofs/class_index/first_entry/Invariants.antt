-- What the loop of `first_entry` keeps.
use Rattle.std.proofs.Common.{◌≡◌, drop}
use Rattle.kr_config.specs.Kept.{rows_of}
use Rattle.kr_config.specs.Lists.{first_list, class_list}
use Rattle.kr_config.specs.Nexts.{lent_class}
use Rattle.kr_config.specs.inner.ClassIndexes.{covers_class}
use Rattle.kr_config.proofs.class_index.first_entry.Given as goal

abbrev pub invariant-loop-i : goal.invariant-loop-i
invariant-loop-i l = class_list (rows_of l.entries) (lent_class l.class)
    ≡ first_list (covers_class (lent_class l.class)) (rows_of (drop l.i l.entries))
