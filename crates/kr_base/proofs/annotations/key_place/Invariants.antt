use Rattle.std.proofs.Common.{◌-◌}
use Rattle.kr_base.proofs.SortedPairs.{Between}
use Rattle.kr_base.proofs.annotations.key_place.Given as goal

abbrev pub invariant-loop-low : goal.invariant-loop-low
invariant-loop-low l = Between l.key l.pairs l.low l.high

abbrev pub decreases-loop-low : goal.decreases-loop-low
decreases-loop-low l = l.high - l.low
