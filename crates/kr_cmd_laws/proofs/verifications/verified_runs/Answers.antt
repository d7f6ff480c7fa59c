use Rattle.kr_cmd_laws.proofs.VerifiedGets.{verified_run}
use Rattle.kr_cmd_laws.proofs.verifications.verified_runs.Goals as goal

pub returns : goal.returns
returns c = verified_run
