-- The loop of Reader::fill.
use Rattle.std.proofs.Common.{length, ◌-◌}
use Rattle.kr_store.proofs.Steps.{Filling}
use Rattle.kr_store.proofs.reader.Reader.fill.Given as goal

abbrev pub invariant-loop-done : goal.invariant-loop-done
invariant-loop-done g l = Filling l.initial.self l.self l.into l.done

abbrev pub decreases-loop-done : goal.decreases-loop-done
decreases-loop-done g l = length l.into - l.done
