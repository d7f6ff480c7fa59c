use Rattle.kr_config.proofs.AsMeant.{reads_as_meant}
use Rattle.kr_config.proofs.laws.texts_are_read_as_meant.Goals as goal

pub returns : goal.returns
returns c = reads_as_meant
