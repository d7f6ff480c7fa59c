-- The replies of a fleet.
use Rattle.kr_workers.proofs.Sentencing.{histories_tell}
use Rattle.kr_workers.proofs.laws.replies_are_true.Goals as goal

pub returns : goal.returns
returns g c =
    histories_tell g.row.T.Denot g.L.Kms.link g.L.Kms.step g.D.Dice.left g.D.Dice.count
