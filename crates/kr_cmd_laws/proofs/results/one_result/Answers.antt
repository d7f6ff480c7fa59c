use Rattle.kr_cmd_laws.proofs.OneEnding as ending
use Rattle.kr_cmd_laws.proofs.results.one_result.Goals as goal

pub returns : goal.returns
returns c = ending.one_result
