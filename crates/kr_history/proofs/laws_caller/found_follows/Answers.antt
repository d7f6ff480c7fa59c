use Rattle.kr_history.proofs.Following.{fetched_law, next_law}
use Rattle.kr_history.proofs.laws_caller.found_follows.Goals as goal

pub returns-clause-fetched : goal.returns-clause-fetched
returns-clause-fetched c = fetched_law

pub returns-clause-next : goal.returns-clause-next
returns-clause-next c = next_law
