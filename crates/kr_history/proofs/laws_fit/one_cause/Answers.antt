use Rattle.kr_history.proofs.Causes as proved
use Rattle.kr_history.proofs.laws_fit.one_cause.Goals as goal

pub returns : goal.returns
returns c = proved.one_cause
