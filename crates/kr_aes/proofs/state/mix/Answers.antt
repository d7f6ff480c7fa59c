use Rattle.std.proofs.Common.{arith}
use Rattle.kr_aes.specs.Cipher.{column_sum, matrix_product}
use Rattle.kr_aes.proofs.Boxes.{state_of_cells}
use Rattle.kr_aes.proofs.state.mix.Goals as goal

pub returns : goal.returns
unfolding matrix_product
returns c =
    state_of_cells c.loop-i.block (column_sum c.args.factors.now c.args.block.now) c.loop-i.invariant.0
    (λ k lt. c.loop-i.invariant.1 k (omega arith))
