use Rattle.kr_cmd_laws.proofs.PrintedPlans.{plan_is_printed}
use Rattle.kr_cmd_laws.proofs.plans.plans_are_printed.Goals as goal

pub returns : goal.returns
returns c = plan_is_printed
