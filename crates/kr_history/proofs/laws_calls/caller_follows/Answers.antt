use Rattle.kr_history.proofs.KeptByEvents as kept
use Rattle.kr_history.proofs.Nexts.{caller_next}
use Rattle.kr_history.proofs.laws_calls.caller_follows.Goals as goal

pub returns-clause-known : goal.returns-clause-known
returns-clause-known c = λ old new asked given k a. caller_next old new asked given a k

pub returns-clause-honest : goal.returns-clause-honest
returns-clause-honest c = kept.keeps_quiet

pub returns-clause-holds : goal.returns-clause-holds
returns-clause-holds c = kept.holds_still
