use Rattle.kr_watch.proofs.WholeRuns as proved
use Rattle.kr_watch.proofs.laws.live_is_listed.Goals as goal

pub returns : goal.returns
returns c = proved.live_is_listed
