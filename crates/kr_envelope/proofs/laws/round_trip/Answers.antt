-- The law is the lemma.
use Rattle.std.proofs.Common.{refl}
use Rattle.kr_envelope.specs.Canonical.{canonical}
use Rattle.kr_envelope.proofs.RoundTrip.{read_back}
use Rattle.kr_envelope.proofs.laws.round_trip.Goals as goal

pub returns : goal.returns
returns c = λ object w k. read_back (canonical object) object refl w k
