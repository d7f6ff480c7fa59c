use Rattle.kr_history.proofs.KeptHonest as proved
use Rattle.kr_history.proofs.laws_calls.budget_follows.Goals as goal

pub returns : goal.returns
returns c = proved.budget_follows
