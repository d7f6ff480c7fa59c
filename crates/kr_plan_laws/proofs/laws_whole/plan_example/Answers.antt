use Rattle.kr_plan_laws.proofs.PlanDone as plan_done
use Rattle.kr_plan_laws.proofs.laws_whole.plan_example.Goals as goal

pub returns : goal.returns
returns c = plan_done.plan_example
