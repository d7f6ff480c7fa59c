use Rattle.kr_history.proofs.LivePuts as proved
use Rattle.kr_history.proofs.laws_content.live_was_put.Goals as goal

pub returns : goal.returns
returns c = proved.live_was_put
