use Rattle.kr_judge.proofs.Members.{has_members}
use Rattle.kr_judge.proofs.laws.providers_are_told_apart.Goals as goal

pub returns : goal.returns
returns c = has_members
