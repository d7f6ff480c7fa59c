use Rattle.kr_judge.proofs.Lacking.{refuses_exactly}
use Rattle.kr_judge.proofs.laws_lack.refuses_exactly.Goals as goal

pub returns : goal.returns
returns c = refuses_exactly
