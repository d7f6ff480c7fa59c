use Rattle.kr_rewrite.proofs.Agreeing as proved
use Rattle.kr_rewrite.proofs.laws.drives_agree.Goals as goal

pub returns : goal.returns
returns g c = proved.drives_agree g.D.Dice.left g.D.Dice.count
