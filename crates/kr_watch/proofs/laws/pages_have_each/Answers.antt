use Rattle.kr_watch.proofs.PagesTaken as proved
use Rattle.kr_watch.proofs.laws.pages_have_each.Goals as goal

pub returns : goal.returns
returns c = proved.pages_have_each
