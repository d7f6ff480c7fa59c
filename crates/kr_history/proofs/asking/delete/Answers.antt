-- `delete`: the answer is told as it was given.
use Rattle.kr_history.proofs.AskedEvents.{told_as}
use Rattle.kr_history.proofs.asking.delete.Goals as goal

pub returns-in-Ok-Written-clause-deletes : goal.returns-in-Ok-Written-clause-deletes
returns-in-Ok-Written-clause-deletes g c =
    told_as c.in-Ok-Written.field-0-is c.in-Ok-Written.ensures.acted

pub returns-in-Ok-Absent-clause-deletes : goal.returns-in-Ok-Absent-clause-deletes
returns-in-Ok-Absent-clause-deletes g c =
    told_as c.in-Ok-Absent.field-0-is c.in-Ok-Absent.ensures.acted

pub returns-in-Ok-StoreFailed-clause-deletes : goal.returns-in-Ok-StoreFailed-clause-deletes
returns-in-Ok-StoreFailed-clause-deletes g c =
    told_as c.in-Ok-StoreFailed.field-0-is c.in-Ok-StoreFailed.ensures.acted

pub returns-in-Ok-StoreFull-clause-deletes : goal.returns-in-Ok-StoreFull-clause-deletes
returns-in-Ok-StoreFull-clause-deletes g c =
    told_as c.in-Ok-StoreFull.field-0-is c.in-Ok-StoreFull.ensures.acted

pub returns-in-Ok-NoMemory-clause-deletes : goal.returns-in-Ok-NoMemory-clause-deletes
returns-in-Ok-NoMemory-clause-deletes g c =
    told_as c.in-Ok-NoMemory.field-0-is c.in-Ok-NoMemory.ensures.acted
