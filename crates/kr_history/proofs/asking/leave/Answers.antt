-- `leave`: the answer is told as it was given.
use Rattle.kr_history.proofs.AskedEvents.{told_as}
use Rattle.kr_history.proofs.asking.leave.Goals as goal

pub returns-in-Ok-Departed-clause-leaves : goal.returns-in-Ok-Departed-clause-leaves
returns-in-Ok-Departed-clause-leaves g c =
    told_as c.in-Ok-Departed.field-0-is c.in-Ok-Departed.ensures.acted
