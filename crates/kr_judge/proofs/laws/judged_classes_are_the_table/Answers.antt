use Rattle.kr_judge.proofs.Tables.{table_computes}
use Rattle.kr_judge.proofs.laws.judged_classes_are_the_table.Goals as goal

pub returns : goal.returns
returns c = table_computes
