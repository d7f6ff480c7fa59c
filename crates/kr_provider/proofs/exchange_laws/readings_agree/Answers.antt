-- A reading.
use Rattle.kr_provider.proofs.AgreeTalks.{reading_agrees}
use Rattle.kr_provider.proofs.exchange_laws.readings_agree.Goals as goal

pub returns : goal.returns
returns c = reading_agrees
