use Rattle.kr_rollout.proofs.Holdings.{found_law}
use Rattle.kr_rollout.proofs.laws.found_is_there.Goals as goal

pub returns : goal.returns
returns c = found_law
