-- Of a path that needs no plugin nothing is supposed.
use Rattle.kr_headline.proofs.NoPlugins as proved
use Rattle.kr_headline.proofs.laws.nothing_supposed.Goals as goal

pub returns : goal.returns
returns g c = proved.nothing_supposed g.row.T.Denot g.L.Kms.link g.L.Kms.step g.D.Dice.count
