use Rattle.kr_history.proofs.Judging as proved
use Rattle.kr_history.proofs.laws_fit.refresh_is_not_refused.Goals as goal

pub returns : goal.returns
returns c = proved.refresh_is_not_refused
