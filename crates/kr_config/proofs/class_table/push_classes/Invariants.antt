-- What the loop of `push_classes` keeps.
use Rattle.std.proofs.Common.{◌≡◌, ◌++◌, take}
use Rattle.kr_config.specs.Classes.{classes_made}
use Rattle.kr_config.proofs.class_table.push_classes.Given as goal

abbrev pub invariant-loop-pattern : goal.invariant-loop-pattern
invariant-loop-pattern l = l.classes.items ≡ l.initial.classes.items
    ++ classes_made (take l.pattern-index l.patterns)
