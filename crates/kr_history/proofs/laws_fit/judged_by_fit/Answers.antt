use Rattle.kr_history.proofs.Judging as proved
use Rattle.kr_history.proofs.laws_fit.judged_by_fit.Goals as goal

pub returns : goal.returns
returns c = proved.judged_by_fit
