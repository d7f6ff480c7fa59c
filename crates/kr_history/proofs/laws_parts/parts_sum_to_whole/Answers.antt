use Rattle.kr_history.proofs.PartsAdd as proved
use Rattle.kr_history.proofs.laws_parts.parts_sum_to_whole.Goals as goal

pub returns : goal.returns
returns c = proved.parts_sum_to_whole
