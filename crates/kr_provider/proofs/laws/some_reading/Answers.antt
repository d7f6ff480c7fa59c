-- The law of readings with some unwrapped source.
use Rattle.kr_provider.proofs.OneReading as proved
use Rattle.kr_provider.proofs.laws.some_reading.Goals as goal

pub returns : goal.returns
returns c = proved.somehow
