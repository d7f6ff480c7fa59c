-- Of plugins that answer as they should the seeds at the start alone are supposed to open.
use Rattle.kr_headline.proofs.Agreeing as proved
use Rattle.kr_headline.proofs.laws.seeds_alone_supposed.Goals as goal

pub returns : goal.returns
returns g c = proved.seeds_alone g.row.T.Denot g.L.Kms.link g.L.Kms.step g.D.Dice.count
