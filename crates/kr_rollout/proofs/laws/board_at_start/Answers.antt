use Rattle.kr_rollout.proofs.Beginning as proved
use Rattle.kr_rollout.proofs.laws.board_at_start.Goals as goal

pub returns : goal.returns
returns c = proved.board_at_start
