use Rattle.kr_cmd_laws.proofs.OneEnding as ending
use Rattle.kr_cmd_laws.proofs.results.complete.Goals as goal

pub returns : goal.returns
returns c = ending.complete
