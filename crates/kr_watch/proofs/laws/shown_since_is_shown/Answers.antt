use Rattle.kr_watch.proofs.ShownLaws as proved
use Rattle.kr_watch.proofs.laws.shown_since_is_shown.Goals as goal

pub returns : goal.returns
returns c = proved.shown_since_is_shown
