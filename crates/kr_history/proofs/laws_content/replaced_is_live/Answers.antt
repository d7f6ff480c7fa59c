use Rattle.kr_history.proofs.FoundRows as proved
use Rattle.kr_history.proofs.laws_content.replaced_is_live.Goals as goal

pub returns : goal.returns
returns c = proved.replaced_is_live
