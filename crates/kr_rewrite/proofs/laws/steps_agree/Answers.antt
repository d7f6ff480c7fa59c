use Rattle.kr_rewrite.proofs.Agreeing as proved
use Rattle.kr_rewrite.proofs.laws.steps_agree.Goals as goal

pub returns : goal.returns
returns g c = proved.steps_agree g.D.Dice.left g.D.Dice.count
