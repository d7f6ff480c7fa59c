use Rattle.kr_aes.proofs.Equivalent.{equivalent_is_inverse}
use Rattle.kr_aes.proofs.laws.equivalent_of_inverse.Goals as goal

pub returns : goal.returns
returns c = equivalent_is_inverse
