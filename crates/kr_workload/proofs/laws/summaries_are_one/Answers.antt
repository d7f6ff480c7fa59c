-- `summaries_are_one`.
use Rattle.kr_workload.proofs.OneListing as proved
use Rattle.kr_workload.proofs.laws.summaries_are_one.Goals as goal

pub returns-clause-digest : goal.returns-clause-digest
returns-clause-digest c = proved.one_digest

pub returns-clause-full : goal.returns-clause-full
returns-clause-full c = proved.full_is_one
