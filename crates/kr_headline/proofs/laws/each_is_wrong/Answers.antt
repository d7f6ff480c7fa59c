-- What no run with the headline prints.
use Rattle.kr_headline.proofs.Wrong as proved
use Rattle.kr_headline.proofs.laws.each_is_wrong.Goals as goal

pub returns : goal.returns
returns g c = proved.each_is_wrong g.row.T.Denot g.L.Kms.link g.L.Kms.step g.D.Dice.count
