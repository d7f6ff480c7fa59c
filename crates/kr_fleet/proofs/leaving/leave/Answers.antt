-- `leave`: nothing is held.
use Rattle.std.proofs.Common.{◌∙◌}
use Rattle.kr_fleet.proofs.leaving.leave.Goals as goal

pub returns-clause-idle : goal.returns-clause-idle
returns-clause-idle g c = c.leave.ensures.holds ∙ c.requires.idle
