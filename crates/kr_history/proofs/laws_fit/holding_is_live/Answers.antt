use Rattle.kr_history.proofs.Judging as proved
use Rattle.kr_history.proofs.laws_fit.holding_is_live.Goals as goal

pub returns : goal.returns
returns c = proved.holding_is_live
