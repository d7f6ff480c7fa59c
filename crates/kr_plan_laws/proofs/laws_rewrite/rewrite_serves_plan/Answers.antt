use Rattle.kr_plan_laws.proofs.Serving as serving
use Rattle.kr_plan_laws.proofs.laws_rewrite.rewrite_serves_plan.Goals as goal

pub returns : goal.returns
returns g c = serving.rewrite_serves_plan g.L.Kms.link g.D.Dice.left g.D.Dice.count
