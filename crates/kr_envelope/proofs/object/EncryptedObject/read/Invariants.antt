-- The items so far made this part of the object.
use Rattle.std.proofs.Common.{length}
use Rattle.kr_envelope.specs.inner.Reading.{Walks}
use Rattle.kr_envelope.proofs.object.EncryptedObject.read.Given as goal

abbrev pub invariant-loop-rest : goal.invariant-loop-rest
invariant-loop-rest l = Walks l.bytes l.rest l.partial

abbrev pub decreases-loop-rest : goal.decreases-loop-rest
decreases-loop-rest l = length l.rest
