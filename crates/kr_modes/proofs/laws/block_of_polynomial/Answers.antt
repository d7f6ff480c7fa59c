use Rattle.kr_modes.proofs.BlockBits.{polynomial_block-polynomial}
use Rattle.kr_modes.proofs.laws.block_of_polynomial.Goals as goal

pub returns : goal.returns
returns c = polynomial_block-polynomial
