use Rattle.kr_watch.proofs.ChangeLaws as proved
use Rattle.kr_watch.proofs.laws.changes_are_last.Goals as goal

pub returns-clause-newest : goal.returns-clause-newest
returns-clause-newest c = proved.newest_is_last

pub returns-clause-whole : goal.returns-clause-whole
returns-clause-whole c = proved.none_is_missing
