use Rattle.kr_modes.proofs.Xors.{xor_lanes}
use Rattle.kr_modes.proofs.blocks.vector_sum.Goals as goal

pub returns : goal.returns
returns c = xor_lanes c.args.block.now c.args.other.now
