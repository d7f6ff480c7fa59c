use Rattle.kr_rollout.proofs.Refusing.{unfit_law}
use Rattle.kr_rollout.proofs.laws.unfit_is_unfit.Goals as goal

pub returns : goal.returns
returns c = unfit_law
