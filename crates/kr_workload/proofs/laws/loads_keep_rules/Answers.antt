-- `loads_keep_rules`: each rule by itself.
use Rattle.kr_workload.proofs.Ruling.{keeps_rules}
use Rattle.kr_workload.proofs.laws.loads_keep_rules.Goals as goal

pub returns : goal.returns
returns c = keeps_rules
