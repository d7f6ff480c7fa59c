use Rattle.kr_plan_laws.proofs.Rewriting as rewriting
use Rattle.kr_plan_laws.proofs.laws_rewrite.rewrite_settles.Goals as goal

pub returns : goal.returns
returns g c = rewriting.rewrite_settles g.L.Kms.link g.D.Dice.left g.D.Dice.count
