use Rattle.kr_history.proofs.LineChanges.{line_changes_live}
use Rattle.kr_history.proofs.laws_line.line_changes_live.Goals as goal

pub returns : goal.returns
returns c = line_changes_live
