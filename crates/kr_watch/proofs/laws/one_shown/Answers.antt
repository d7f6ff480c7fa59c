use Rattle.kr_watch.proofs.ShownLaws as proved
use Rattle.kr_watch.proofs.laws.one_shown.Goals as goal

pub returns : goal.returns
returns c = proved.one_shown
