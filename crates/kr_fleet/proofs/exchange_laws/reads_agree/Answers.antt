-- What is read.
use Rattle.kr_fleet.proofs.AgreeingReads.{reads_agree}
use Rattle.kr_fleet.proofs.exchange_laws.reads_agree.Goals as goal

pub returns : goal.returns
returns c = reads_agree
