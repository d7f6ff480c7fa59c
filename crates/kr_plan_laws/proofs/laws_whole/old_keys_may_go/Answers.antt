use Rattle.kr_plan_laws.proofs.WholePlan as whole_plan
use Rattle.kr_plan_laws.proofs.laws_whole.old_keys_may_go.Goals as goal

pub returns : goal.returns
returns c = whole_plan.old_keys_may_go
