use Rattle.kr_history.proofs.LineChanges.{faults_are_told}
use Rattle.kr_history.proofs.laws_line.faults_are_told.Goals as goal

pub returns : goal.returns
returns c = faults_are_told
