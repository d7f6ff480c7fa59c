use Rattle.kr_history.proofs.FoundRows as proved
use Rattle.kr_history.proofs.laws_content.found_is_live.Goals as goal

pub returns : goal.returns
returns c = proved.found_is_live
