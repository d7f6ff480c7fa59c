use Rattle.kr_history.proofs.HonestPaths as proved
use Rattle.kr_history.proofs.laws_content.honest_at_each.Goals as goal

pub returns : goal.returns
returns c = proved.honest_at_each
