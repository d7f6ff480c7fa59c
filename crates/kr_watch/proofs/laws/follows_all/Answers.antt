use Rattle.kr_watch.proofs.WholeRuns as proved
use Rattle.kr_watch.proofs.laws.follows_all.Goals as goal

pub returns : goal.returns
returns c = proved.follows_all
