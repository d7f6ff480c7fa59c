-- Each cell is read from the first of the two copies.
use Rattle.std.proofs.Common.{rules}
use Rattle.kr_aes_bitsliced.proofs.PlaneMoves.{two_below_cell}
use Rattle.kr_aes_bitsliced.proofs.columns.UpByTwoShuffle.shuffled.Goals as goal

pub returns : goal.returns
returns c = two_below_cell c.args.plane (search rules)
