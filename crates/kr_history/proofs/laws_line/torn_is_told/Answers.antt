use Rattle.kr_history.proofs.TornTails.{torn_is_told}
use Rattle.kr_history.proofs.laws_line.torn_is_told.Goals as goal

pub returns : goal.returns
returns c = torn_is_told
