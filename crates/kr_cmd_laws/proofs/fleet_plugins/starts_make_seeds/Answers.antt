use Rattle.kr_cmd_laws.proofs.Starts.{starts_make_seeds}
use Rattle.kr_cmd_laws.proofs.fleet_plugins.starts_make_seeds.Goals as goal

pub returns : goal.returns
returns g c = starts_make_seeds g.row.W-Tap.Denot g.W.Link.Kms.link
    g.W.Link.Kms.step g.W.World.lent g.W.World.took g.W.Rand.Dice.left g.W.Rand.Dice.count
