use Rattle.kr_cmd_laws.proofs.AllTold as whole
use Rattle.kr_cmd_laws.proofs.results.all_is_told.Goals as goal

pub returns : goal.returns
returns c = whole.all_is_told
