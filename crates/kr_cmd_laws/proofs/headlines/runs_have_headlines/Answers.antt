-- The headline of a call.
use Rattle.kr_cmd_laws.proofs.RunHeads as proved
use Rattle.kr_cmd_laws.proofs.headlines.runs_have_headlines.Goals as goal

pub returns : goal.returns
returns g c = proved.runs_have_headlines g.row.W-Tap.Denot g.W.Link.Kms.link
    g.W.Link.Kms.step
    g.W.World.lent g.W.World.took g.W.Rand.Dice.left g.W.Rand.Dice.count
