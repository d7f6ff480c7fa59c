-- `loads_are_full`.
use Rattle.kr_workload.proofs.FullRuns as proved
use Rattle.kr_workload.proofs.laws.loads_are_full.Goals as goal

pub returns : goal.returns
returns g c =
    proved.loads_are_full g.row.T.Denot g.L.Kms.link g.L.Kms.step g.D.Dice.left
    g.D.Dice.count
