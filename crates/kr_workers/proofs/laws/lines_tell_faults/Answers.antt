-- Each line's draws, and its exchanges.
use Rattle.kr_workers.proofs.AskedJust as proved
use Rattle.kr_workers.proofs.laws.lines_tell_faults.Goals as goal

pub returns : goal.returns
returns g c =
    proved.lines_tell_faults g.L.Kms.link g.L.Kms.step g.D.Dice.left g.D.Dice.count
