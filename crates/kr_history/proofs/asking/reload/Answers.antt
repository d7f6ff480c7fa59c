-- `reload`: the answer is told as it was given.
use Rattle.kr_history.proofs.AskedEvents.{told_as}
use Rattle.kr_history.proofs.asking.reload.Goals as goal

pub returns-in-Ok-Reloaded-clause-reloads : goal.returns-in-Ok-Reloaded-clause-reloads
returns-in-Ok-Reloaded-clause-reloads g c =
    told_as c.in-Ok-Reloaded.field-0-is c.in-Ok-Reloaded.ensures.acted

pub returns-in-Ok-Refused-clause-reloads : goal.returns-in-Ok-Refused-clause-reloads
returns-in-Ok-Refused-clause-reloads g c =
    told_as c.in-Ok-Refused.field-0-is c.in-Ok-Refused.ensures.acted

pub returns-in-Ok-Moved-clause-reloads : goal.returns-in-Ok-Moved-clause-reloads
returns-in-Ok-Moved-clause-reloads g c =
    told_as c.in-Ok-Moved.field-0-is c.in-Ok-Moved.ensures.acted

pub returns-in-Ok-NoMemory-clause-reloads : goal.returns-in-Ok-NoMemory-clause-reloads
returns-in-Ok-NoMemory-clause-reloads g c =
    told_as c.in-Ok-NoMemory.field-0-is c.in-Ok-NoMemory.ensures.acted
