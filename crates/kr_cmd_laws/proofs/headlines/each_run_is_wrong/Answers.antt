-- What no call leaves.
use Rattle.kr_cmd_laws.proofs.WrongRuns as proved
use Rattle.kr_cmd_laws.proofs.headlines.each_run_is_wrong.Goals as goal

pub returns : goal.returns
returns g c = proved.each_run_is_wrong g.row.W-Tap.Denot g.W.Link.Kms.link
    g.W.Link.Kms.step g.W.World.lent g.W.World.took g.W.Rand.Dice.left g.W.Rand.Dice.count
