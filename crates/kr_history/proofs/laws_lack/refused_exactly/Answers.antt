use Rattle.kr_history.proofs.Lacking.{refused_exactly}
use Rattle.kr_history.proofs.laws_lack.refused_exactly.Goals as goal

pub returns : goal.returns
returns c = refused_exactly
