use Rattle.kr_modes.proofs.Unpaddings.{pad_of_unpad, unpad_of_pad}
use Rattle.kr_modes.proofs.laws.unpad_of_pad.Goals as goal

pub returns : goal.returns
returns c = λ bytes plain. (pad_of_unpad bytes plain, unpad_of_pad bytes plain)
