-- The law of sealings.
use Rattle.kr_provider.proofs.Sealings.{sealing_reads}
use Rattle.kr_provider.proofs.laws.data_of_sealing.Goals as goal

pub returns : goal.returns
returns c = sealing_reads
