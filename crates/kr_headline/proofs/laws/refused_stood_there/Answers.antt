-- A value that is refused stood there at the start.
use Rattle.kr_headline.proofs.Consequences as proved
use Rattle.kr_headline.proofs.laws.refused_stood_there.Goals as goal

pub returns : goal.returns
returns g c = proved.refused_stood_there g.row.T.Denot g.L.Kms.link g.L.Kms.step g.D.Dice.count
