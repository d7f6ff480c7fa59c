-- Each cell is read from the first of the two copies.
use Rattle.std.proofs.Common.{rules}
use Rattle.kr_aes_bitsliced.proofs.PlaneMoves.{on_the_left_cell}
use Rattle.kr_aes_bitsliced.proofs.inverse_mixing.RowsRightShuffle.shuffled.Goals as goal

pub returns : goal.returns
returns c = on_the_left_cell c.args.plane (search rules)
