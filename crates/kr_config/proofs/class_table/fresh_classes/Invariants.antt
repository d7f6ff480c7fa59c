-- What the loop of `fresh_classes` keeps.
use Rattle.std.proofs.Common.{◌≡◌, ◌∷◌, take}
use Rattle.kr_config.specs.declared.class.Class.TheVariants.{Rest}
use Rattle.kr_config.specs.Kept.{rows_of}
use Rattle.kr_config.specs.Classes.{classes_in}
use Rattle.kr_config.proofs.class_table.fresh_classes.Given as goal

abbrev pub invariant-loop-entry : goal.invariant-loop-entry
invariant-loop-entry l = l.classes.items ≡ Rest
    ∷ classes_in (rows_of (take l.entry-index l.entries))
