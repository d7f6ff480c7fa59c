use Rattle.kr_watch.proofs.ShownLaws as proved
use Rattle.kr_watch.proofs.laws.seeds_follow.Goals as goal

pub returns : goal.returns
returns c = proved.seeds_follow
