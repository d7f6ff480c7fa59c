-- What the tactic leaves open of `classes_narrow`.
use Rattle.kr_config.proofs.Narrowing.{each_class_narrows, next_in_table}
use Rattle.kr_config.proofs.Nexts.{classes_joined}
use Rattle.kr_config.proofs.laws.classes_narrow.Goals as goal

pub returns : goal.returns
returns c = record {
  narrows = each_class_narrows;
  next = next_in_table;
  first = classes_joined;
}
