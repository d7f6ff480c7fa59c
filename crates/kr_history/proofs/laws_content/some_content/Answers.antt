use Rattle.kr_history.proofs.HavingContent as proved
use Rattle.kr_history.proofs.laws_content.some_content.Goals as goal

pub returns : goal.returns
returns c = proved.some_content
