use Rattle.kr_rollout.proofs.Appending.{front_law}
use Rattle.kr_rollout.proofs.laws.front_is_legal.Goals as goal

pub returns : goal.returns
returns c = front_law
