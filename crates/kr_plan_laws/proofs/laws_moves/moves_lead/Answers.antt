use Rattle.kr_plan_laws.proofs.MovesDone as moves_done
use Rattle.kr_plan_laws.proofs.laws_moves.moves_lead.Goals as goal

pub returns : goal.returns
returns c = moves_done.moves_lead
