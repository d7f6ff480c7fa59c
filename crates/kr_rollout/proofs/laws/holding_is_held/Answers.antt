use Rattle.kr_rollout.proofs.Holdings.{holding_law}
use Rattle.kr_rollout.proofs.laws.holding_is_held.Goals as goal

pub returns : goal.returns
returns c = holding_law
