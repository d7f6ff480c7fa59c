use Rattle.kr_history.proofs.ContentSteps as proved
use Rattle.kr_history.proofs.laws_content.nothing_is_absent.Goals as goal

pub returns : goal.returns
returns c = proved.nothing_is_absent
