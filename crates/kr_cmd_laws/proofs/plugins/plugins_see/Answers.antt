use Rattle.kr_cmd_laws.proofs.Questions.{plugins_see}
use Rattle.kr_cmd_laws.proofs.plugins.plugins_see.Goals as goal

pub returns : goal.returns
returns c = plugins_see
