-- Each reply has its cause.
use Rattle.kr_workers.proofs.CausingRuns as proved
use Rattle.kr_workers.proofs.laws.replies_have_causes.Goals as goal

pub returns : goal.returns
returns g c =
    proved.replies_have_causes g.L.Kms.link g.L.Kms.step g.D.Dice.left g.D.Dice.count
