use Rattle.kr_history.proofs.RevisionsRise as proved
use Rattle.kr_history.proofs.laws_content.revisions_rise.Goals as goal

pub returns : goal.returns
returns c = proved.revisions_rise
