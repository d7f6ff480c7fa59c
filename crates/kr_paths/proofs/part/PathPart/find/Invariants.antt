use Rattle.std.proofs.Common.{◌-◌}
use Rattle.kr_paths.proofs.Searches.{Looks}
use Rattle.kr_paths.proofs.part.PathPart.find.Given as goal

abbrev pub invariant-loop-low : goal.invariant-loop-low
invariant-loop-low l = Looks l.path l.self l.low l.high

abbrev pub decreases-loop-low : goal.decreases-loop-low
decreases-loop-low l = l.high - l.low
