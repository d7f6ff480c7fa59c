use Rattle.kr_watch.proofs.ChangeLaws as proved
use Rattle.kr_watch.proofs.laws.changes_follow_each_other.Goals as goal

pub returns : goal.returns
returns c = proved.changes_follow_each_other
