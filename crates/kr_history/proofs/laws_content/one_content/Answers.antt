use Rattle.kr_history.proofs.ContentSteps as proved
use Rattle.kr_history.proofs.laws_content.one_content.Goals as goal

pub returns : goal.returns
returns c = proved.one_content
