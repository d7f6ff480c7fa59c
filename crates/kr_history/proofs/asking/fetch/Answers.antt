-- `fetch`: the row stands at the path, and isn't too long to be unsealed.
use Rattle.kr_history.proofs.Nexts.{found_row}
use Rattle.kr_history.proofs.AskedEvents.{told_as}
use Rattle.kr_history.proofs.asking.fetch.Goals as goal

pub returns-in-Ok-Found-clause-row : goal.returns-in-Ok-Found-clause-row
returns-in-Ok-Found-clause-row g c =
    let old = g.A.Acts.caller c.args.acts.now in
    let new = g.A.Acts.caller c.ask.new.acts in
    let r = found_row old new c.args.path c.in-Ok-Found.row c.ask.ensures.known
    (told_as c.in-Ok-Found.field-0-is c.in-Ok-Found.ensures.acted) in
    (r.path_is, r.short)

pub returns-in-Ok-Found-clause-fetches : goal.returns-in-Ok-Found-clause-fetches
returns-in-Ok-Found-clause-fetches g c =
    told_as c.in-Ok-Found.field-0-is c.in-Ok-Found.ensures.acted

pub returns-in-Ok-Absent-clause-fetches : goal.returns-in-Ok-Absent-clause-fetches
returns-in-Ok-Absent-clause-fetches g c =
    told_as c.in-Ok-Absent.field-0-is c.in-Ok-Absent.ensures.acted

pub returns-in-Ok-NoMemory-clause-fetches : goal.returns-in-Ok-NoMemory-clause-fetches
returns-in-Ok-NoMemory-clause-fetches g c =
    told_as c.in-Ok-NoMemory.field-0-is c.in-Ok-NoMemory.ensures.acted
