use Rattle.kr_modes.proofs.Sealed.{ungcm-gcm}
use Rattle.kr_modes.proofs.laws.gcm_of_other_data.Goals as goal

pub returns : goal.returns
returns c = ungcm-gcm
