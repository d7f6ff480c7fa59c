use Rattle.kr_history.proofs.FoundRows as proved
use Rattle.kr_history.proofs.laws_content.absent_is_nothing.Goals as goal

pub returns : goal.returns
returns c = proved.absent_is_nothing
