use Rattle.kr_watch.proofs.PagesTaken as proved
use Rattle.kr_watch.proofs.laws.pages_are_all.Goals as goal

pub returns : goal.returns
returns c = proved.pages_are_all
