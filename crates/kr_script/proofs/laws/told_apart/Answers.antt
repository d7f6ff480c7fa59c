-- What the tactic leaves open of `told_apart`.
use Rattle.kr_script.proofs.Apart.{told_apart}
use Rattle.kr_script.proofs.laws.told_apart.Goals as goal

pub returns : goal.returns
returns c = told_apart
