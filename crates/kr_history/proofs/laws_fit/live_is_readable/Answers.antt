use Rattle.kr_history.proofs.NeedsLive as proved
use Rattle.kr_history.proofs.laws_fit.live_is_readable.Goals as goal

pub returns : goal.returns
returns c = proved.live_is_readable
