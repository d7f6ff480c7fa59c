use Rattle.kr_opening.proofs.ReplicasJudged.{judges_replicas}
use Rattle.kr_opening.proofs.laws.judges_replicas.Goals as goal

pub returns : goal.returns
returns c = judges_replicas
