-- In each plane the rows have gone to the right.
use Rattle.std.proofs.Common.{◌+◌, ◌-◌, ◌%◌, arith}
use Rattle.kr_aes.specs.InverseCipher.{inverse_shift_rows}
use Rattle.kr_aes_bitsliced.proofs.SlicedBlocks.{sliced_turned}
use Rattle.kr_aes_bitsliced.proofs.inverse_mixing.inverse_shift_rows.Goals as goal

pub returns : goal.returns
unfolding inverse_shift_rows
returns c = λ b hb.
    sliced_turned (λ row column. (column + 4 - row) % 4) c.args.planes _ (λ row column. omega arith)
    b (λ row column hr hc. c.each_shuffled.ensures b row column hb hr hc)
