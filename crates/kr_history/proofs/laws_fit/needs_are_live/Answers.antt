use Rattle.kr_history.proofs.NeedsLive as proved
use Rattle.kr_history.proofs.laws_fit.needs_are_live.Goals as goal

pub returns : goal.returns
returns c = proved.needs_are_live
