use Rattle.kr_history.proofs.Judging as proved
use Rattle.kr_history.proofs.laws_fit.verdict_is_exact.Goals as goal

pub returns : goal.returns
returns c = proved.verdict_exact
