-- The law of sealed values.
use Rattle.kr_provider.proofs.SealedReads.{sealed_reads}
use Rattle.kr_provider.proofs.laws.data_of_sealed.Goals as goal

pub returns : goal.returns
returns c = sealed_reads
