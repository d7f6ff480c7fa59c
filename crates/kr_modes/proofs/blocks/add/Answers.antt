use Rattle.std.proofs.Common.{arith}
use Rattle.kr_modes.proofs.BlockSums.{halves_joined}
use Rattle.kr_modes.proofs.blocks.add.Goals as goal

pub returns : goal.returns
returns c =
    halves_joined c.args.block.now c.args.other.now _ _ (omega arith) (omega arith) c.half_sum.ensures c.half_sum-2.ensures
