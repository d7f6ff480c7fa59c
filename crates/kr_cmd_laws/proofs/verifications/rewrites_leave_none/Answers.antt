use Rattle.kr_cmd_laws.proofs.VerifiedRewrites.{none_left}
use Rattle.kr_cmd_laws.proofs.verifications.rewrites_leave_none.Goals as goal

pub returns : goal.returns
returns c = none_left
