-- The key pages of a fleet's workers.
use Rattle.kr_workers.proofs.MovedKeys.{workers_hold}
use Rattle.kr_workers.proofs.laws.workers_hold_their_keys.Goals as goal

pub returns : goal.returns
returns g c =
    workers_hold g.row.T.Denot g.L.Kms.link g.L.Kms.step g.D.Dice.left g.D.Dice.count
