use Rattle.kr_history.proofs.Judging as proved
use Rattle.kr_history.proofs.laws_fit.judged_state_follows.Goals as goal

pub returns : goal.returns
returns c = proved.judged_state_follows
