-- The headline.
use Rattle.kr_headline.proofs.Headlines as proved
use Rattle.kr_headline.proofs.laws.headline_holds.Goals as goal

pub returns : goal.returns
returns g c =
    proved.fleet_headline g.row.T.Denot g.L.Kms.link g.L.Kms.step g.D.Dice.left
    g.D.Dice.count
