use Rattle.kr_history.proofs.Lacking.{verdict_refuses_exactly}
use Rattle.kr_history.proofs.laws_lack.verdict_refuses_exactly.Goals as goal

pub returns : goal.returns
returns c = verdict_refuses_exactly
