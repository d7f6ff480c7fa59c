use Rattle.kr_history.proofs.PartsAdd as proved
use Rattle.kr_history.proofs.laws_parts.bounds_follow.Goals as goal

pub returns : goal.returns
returns c = proved.bounds_follow
