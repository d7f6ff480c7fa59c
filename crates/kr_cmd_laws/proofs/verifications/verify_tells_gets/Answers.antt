use Rattle.kr_cmd_laws.proofs.VerifiedGets.{verified}
use Rattle.kr_cmd_laws.proofs.verifications.verify_tells_gets.Goals as goal

pub returns : goal.returns
returns c = verified
