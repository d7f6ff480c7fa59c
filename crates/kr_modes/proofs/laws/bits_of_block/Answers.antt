use Rattle.kr_modes.proofs.BlockBits.{bit_of_polynomial}
use Rattle.kr_modes.proofs.laws.bits_of_block.Goals as goal

pub returns : goal.returns
returns c = bit_of_polynomial
