use Rattle.kr_watch.proofs.ShownPages as proved
use Rattle.kr_watch.proofs.laws.shown_are_above.Goals as goal

pub returns : goal.returns
returns c = proved.shown_are_above
