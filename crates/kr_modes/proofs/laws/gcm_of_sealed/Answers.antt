use Rattle.kr_modes.proofs.Sealed.{gcm_opened-gcm}
use Rattle.kr_modes.proofs.laws.gcm_of_sealed.Goals as goal

pub returns : goal.returns
returns c = gcm_opened-gcm
