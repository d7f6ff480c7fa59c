-- The law of values without plugins.
use Rattle.kr_provider.proofs.OneReading as proved
use Rattle.kr_provider.proofs.laws.reading_without_plugin.Goals as goal

pub returns : goal.returns
returns c = proved.without_plugin
