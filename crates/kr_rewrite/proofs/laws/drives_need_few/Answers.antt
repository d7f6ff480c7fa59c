use Rattle.kr_rewrite.proofs.Shortness as proved
use Rattle.kr_rewrite.proofs.laws.drives_need_few.Goals as goal

pub returns : goal.returns
returns g c =
    proved.drives_need_few g.L.Kms.link g.D.Dice.left g.D.Dice.count
