-- The fields so far say this key and this value.
use Rattle.std.proofs.Common.{length}
use Rattle.kr_envelope.specs.inner.Reading.{SeesEntry}
use Rattle.kr_envelope.proofs.item.entry.Given as goal

abbrev pub invariant-loop-rest : goal.invariant-loop-rest
invariant-loop-rest l = SeesEntry l.text l.rest l.key l.value

abbrev pub decreases-loop-rest : goal.decreases-loop-rest
decreases-loop-rest l = length l.rest
