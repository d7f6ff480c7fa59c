-- `replace`: the answer is told as it was given.
use Rattle.kr_history.proofs.AskedEvents.{told_as}
use Rattle.kr_history.proofs.asking.replace.Goals as goal

pub returns-in-Ok-Written-clause-replaces : goal.returns-in-Ok-Written-clause-replaces
returns-in-Ok-Written-clause-replaces g c =
    told_as c.in-Ok-Written.field-0-is c.in-Ok-Written.ensures.acted

pub returns-in-Ok-Changed-clause-replaces : goal.returns-in-Ok-Changed-clause-replaces
returns-in-Ok-Changed-clause-replaces g c =
    told_as c.in-Ok-Changed.field-0-is c.in-Ok-Changed.ensures.acted

pub returns-in-Ok-StoreFailed-clause-replaces : goal.returns-in-Ok-StoreFailed-clause-replaces
returns-in-Ok-StoreFailed-clause-replaces g c =
    told_as c.in-Ok-StoreFailed.field-0-is c.in-Ok-StoreFailed.ensures.acted

pub returns-in-Ok-StoreFull-clause-replaces : goal.returns-in-Ok-StoreFull-clause-replaces
returns-in-Ok-StoreFull-clause-replaces g c =
    told_as c.in-Ok-StoreFull.field-0-is c.in-Ok-StoreFull.ensures.acted

pub returns-in-Ok-NoMemory-clause-replaces : goal.returns-in-Ok-NoMemory-clause-replaces
returns-in-Ok-NoMemory-clause-replaces g c =
    told_as c.in-Ok-NoMemory.field-0-is c.in-Ok-NoMemory.ensures.acted
