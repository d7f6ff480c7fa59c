-- What the loop of `class_places` keeps.
use Rattle.std.proofs.Common.{take}
use Rattle.kr_config.specs.Kept.{rows_of}
use Rattle.kr_config.specs.inner.ClassIndexes.{ArePlaces}
use Rattle.kr_config.proofs.class_index.class_places.Given as goal

abbrev pub invariant-loop-class : goal.invariant-loop-class
invariant-loop-class l = ArePlaces (rows_of l.entries) (take l.class-index l.classes) l.index.items
