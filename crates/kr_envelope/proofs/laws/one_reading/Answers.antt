-- The law is the lemma.
use Rattle.kr_envelope.proofs.OneReading.{one_reading}
use Rattle.kr_envelope.proofs.Readable.{have_readings}
use Rattle.kr_envelope.proofs.laws.one_reading.Goals as goal

pub returns-clause-one : goal.returns-clause-one
returns-clause-one c = one_reading

pub returns-clause-some : goal.returns-clause-some
returns-clause-some c = have_readings
