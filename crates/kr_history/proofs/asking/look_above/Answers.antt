-- `look_above`: the row was found last, and keeps its rules.
use Rattle.kr_history.proofs.AskedEvents.{next_row, told_as}
use Rattle.kr_history.proofs.asking.look_above.Goals as goal

pub returns-in-Ok-Found-clause-row : goal.returns-in-Ok-Found-clause-row
returns-in-Ok-Found-clause-row g c =
    let old = g.A.Acts.caller c.args.acts.now in
    let new = g.A.Acts.caller c.ask.new.acts in
    next_row old new c.args.above c.in-Ok-Found.row c.ask.ensures.known
    (told_as c.in-Ok-Found.field-0-is c.in-Ok-Found.ensures.acted)

pub returns-in-Ok-Found-clause-looks : goal.returns-in-Ok-Found-clause-looks
returns-in-Ok-Found-clause-looks g c =
    told_as c.in-Ok-Found.field-0-is c.in-Ok-Found.ensures.acted

pub returns-in-Ok-Absent-clause-looks : goal.returns-in-Ok-Absent-clause-looks
returns-in-Ok-Absent-clause-looks g c =
    told_as c.in-Ok-Absent.field-0-is c.in-Ok-Absent.ensures.acted

pub returns-in-Ok-NoMemory-clause-looks : goal.returns-in-Ok-NoMemory-clause-looks
returns-in-Ok-NoMemory-clause-looks g c =
    told_as c.in-Ok-NoMemory.field-0-is c.in-Ok-NoMemory.ensures.acted
