-- `join`: the answer is told as it was given.
use Rattle.kr_history.proofs.AskedEvents.{told_as}
use Rattle.kr_history.proofs.asking.join.Goals as goal

pub returns-in-Ok-Joined-clause-joins : goal.returns-in-Ok-Joined-clause-joins
returns-in-Ok-Joined-clause-joins g c =
    told_as c.in-Ok-Joined.field-0-is c.in-Ok-Joined.ensures.acted

pub returns-in-Ok-Refused-clause-joins : goal.returns-in-Ok-Refused-clause-joins
returns-in-Ok-Refused-clause-joins g c =
    told_as c.in-Ok-Refused.field-0-is c.in-Ok-Refused.ensures.acted

pub returns-in-Ok-Present-clause-joins : goal.returns-in-Ok-Present-clause-joins
returns-in-Ok-Present-clause-joins g c =
    told_as c.in-Ok-Present.field-0-is c.in-Ok-Present.ensures.acted

pub returns-in-Ok-NoMemory-clause-joins : goal.returns-in-Ok-NoMemory-clause-joins
returns-in-Ok-NoMemory-clause-joins g c =
    told_as c.in-Ok-NoMemory.field-0-is c.in-Ok-NoMemory.ensures.acted
