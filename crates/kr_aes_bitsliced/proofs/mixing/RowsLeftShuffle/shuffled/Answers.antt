-- Each cell is read from the first of the two copies.
use Rattle.std.proofs.Common.{rules}
use Rattle.kr_aes_bitsliced.proofs.PlaneMoves.{on_the_right_cell}
use Rattle.kr_aes_bitsliced.proofs.mixing.RowsLeftShuffle.shuffled.Goals as goal

pub returns : goal.returns
returns c = on_the_right_cell c.args.plane (search rules)
