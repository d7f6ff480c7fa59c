use Rattle.kr_plan_laws.proofs.WholePlan as whole_plan
use Rattle.kr_plan_laws.proofs.laws_whole.plans_come_to_their_end.Goals as goal

pub returns : goal.returns
returns c = whole_plan.plans_come_to_their_end
