-- In each plane the rows have gone to the left.
use Rattle.std.proofs.Common.{◌+◌, ◌%◌, arith}
use Rattle.kr_aes.specs.Cipher.{shift_rows}
use Rattle.kr_aes_bitsliced.proofs.SlicedBlocks.{sliced_turned}
use Rattle.kr_aes_bitsliced.proofs.mixing.shift_rows.Goals as goal

pub returns : goal.returns
unfolding shift_rows
returns c = λ b hb.
    sliced_turned (λ row column. (column + row) % 4) c.args.planes _ (λ row column. omega arith) b
    (λ row column hr hc. c.each_shuffled.ensures b row column hb hr hc)
