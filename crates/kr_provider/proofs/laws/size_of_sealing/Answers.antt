-- The law of sizes.
use Rattle.kr_provider.proofs.SealedSizes as proved
use Rattle.kr_provider.proofs.laws.size_of_sealing.Goals as goal

pub returns : goal.returns
returns c = proved.sealing_is_sized
