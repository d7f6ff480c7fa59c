use Rattle.kr_history.proofs.Counting.{board_counts}
use Rattle.kr_history.proofs.laws_count.board_counts.Goals as goal

pub returns : goal.returns
returns c = board_counts
