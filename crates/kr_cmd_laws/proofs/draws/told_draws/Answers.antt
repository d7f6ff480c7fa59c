use Rattle.kr_cmd_laws.proofs.Drawn.{told_draws}
use Rattle.kr_cmd_laws.proofs.draws.told_draws.Goals as goal

pub returns : goal.returns
returns c = told_draws
