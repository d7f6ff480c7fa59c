use Rattle.std.proofs.Common.{◌-◌}
use Rattle.kr_paths.proofs.Searches.{Seeks}
use Rattle.kr_paths.proofs.spot.find_part.Given as goal

abbrev pub invariant-loop-high : goal.invariant-loop-high
invariant-loop-high l = Seeks l.path l.parts l.low l.high

abbrev pub decreases-loop-high : goal.decreases-loop-high
decreases-loop-high l = l.high - l.low
