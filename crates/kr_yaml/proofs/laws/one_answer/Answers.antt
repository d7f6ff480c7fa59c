use Rattle.kr_yaml.proofs.OneAnswer.{one_form, one_answer}
use Rattle.kr_yaml.proofs.SomeAnswer.{some_answer}
use Rattle.kr_yaml.proofs.Order.{on_a_line}
use Rattle.kr_yaml.proofs.laws.one_answer.Goals as goal

pub returns : goal.returns
returns c = record { form = one_form; some = some_answer; answer = one_answer; order = on_a_line }
