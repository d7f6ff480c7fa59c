use Rattle.kr_watch.proofs.NoteSteps as proved
use Rattle.kr_watch.proofs.laws.noted_is_newest.Goals as goal

pub returns : goal.returns
returns c = proved.noted_is_newest
