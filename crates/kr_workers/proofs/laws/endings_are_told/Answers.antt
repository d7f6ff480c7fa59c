-- What an ending tells.
use Rattle.kr_workers.proofs.Ends as proved
use Rattle.kr_workers.proofs.laws.endings_are_told.Goals as goal

pub returns : goal.returns
returns c = proved.endings_are_told
