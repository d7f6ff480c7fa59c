use Rattle.kr_modes.proofs.Sealed.{cbc_opened-cbc}
use Rattle.kr_modes.proofs.laws.cbc_of_sealed.Goals as goal

pub returns : goal.returns
returns c = cbc_opened-cbc
