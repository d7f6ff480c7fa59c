-- The law that a reading is one.
use Rattle.kr_provider.proofs.OneReading as proved
use Rattle.kr_provider.proofs.laws.one_reading.Goals as goal

pub returns : goal.returns
returns c = proved.one_reading
