-- `put`: the answer is told as it was given.
use Rattle.kr_history.proofs.AskedEvents.{told_as}
use Rattle.kr_history.proofs.asking.put.Goals as goal

pub returns-in-Ok-Written-clause-puts : goal.returns-in-Ok-Written-clause-puts
returns-in-Ok-Written-clause-puts g c =
    told_as c.in-Ok-Written.field-0-is c.in-Ok-Written.ensures.acted

pub returns-in-Ok-StoreFailed-clause-puts : goal.returns-in-Ok-StoreFailed-clause-puts
returns-in-Ok-StoreFailed-clause-puts g c =
    told_as c.in-Ok-StoreFailed.field-0-is c.in-Ok-StoreFailed.ensures.acted

pub returns-in-Ok-StoreFull-clause-puts : goal.returns-in-Ok-StoreFull-clause-puts
returns-in-Ok-StoreFull-clause-puts g c =
    told_as c.in-Ok-StoreFull.field-0-is c.in-Ok-StoreFull.ensures.acted

pub returns-in-Ok-NoMemory-clause-puts : goal.returns-in-Ok-NoMemory-clause-puts
returns-in-Ok-NoMemory-clause-puts g c =
    told_as c.in-Ok-NoMemory.field-0-is c.in-Ok-NoMemory.ensures.acted
