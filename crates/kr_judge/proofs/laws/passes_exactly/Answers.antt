use Rattle.kr_judge.proofs.Passing.{passes_exactly}
use Rattle.kr_judge.proofs.laws.passes_exactly.Goals as goal

pub returns : goal.returns
returns c = passes_exactly
