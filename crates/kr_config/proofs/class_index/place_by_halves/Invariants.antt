-- What the loop of `place_by_halves` keeps.
use Rattle.std.proofs.Common.{◌-◌}
use Rattle.kr_config.specs.Nexts.{lent_class}
use Rattle.kr_config.proofs.ClassSearches.{Between}
use Rattle.kr_config.proofs.class_index.place_by_halves.Given as goal

abbrev pub invariant-loop-low : goal.invariant-loop-low
invariant-loop-low l = Between (lent_class l.class) l.index l.low l.high

abbrev pub decreases-loop-low : goal.decreases-loop-low
decreases-loop-low l = l.high - l.low
