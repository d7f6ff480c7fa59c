use Rattle.kr_plan_laws.proofs.PassThenPut as pass_then_put
use Rattle.kr_plan_laws.proofs.laws_pass.pass_then_loss.Goals as goal

pub returns : goal.returns
returns c = pass_then_put.pass_then_loss
