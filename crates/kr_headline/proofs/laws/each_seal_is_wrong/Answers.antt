-- What no run leaves behind in its store.
use Rattle.kr_headline.proofs.WrongSeals as proved
use Rattle.kr_headline.proofs.laws.each_seal_is_wrong.Goals as goal

pub returns : goal.returns
returns g c =
    proved.each_seal_is_wrong g.row.T.Denot g.L.Kms.link g.L.Kms.step g.D.Dice.count
