use Rattle.kr_history.proofs.FullExact as proved
use Rattle.kr_history.proofs.laws_size.full_is_exact.Goals as goal

pub returns : goal.returns
returns c = proved.full_is_exact
