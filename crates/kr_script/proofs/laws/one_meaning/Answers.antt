-- What the tactic leaves open of `one_meaning`.
use Rattle.kr_script.proofs.OneAnswer.{one_meaning, some_meaning}
use Rattle.kr_script.proofs.laws.one_meaning.Goals as goal

pub returns-clause-one : goal.returns-clause-one
returns-clause-one c = one_meaning

pub returns-clause-some : goal.returns-clause-some
returns-clause-some c = some_meaning
