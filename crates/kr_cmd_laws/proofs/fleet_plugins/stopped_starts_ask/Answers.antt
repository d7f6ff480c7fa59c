use Rattle.kr_cmd_laws.proofs.Starts.{stopped_starts_ask}
use Rattle.kr_cmd_laws.proofs.fleet_plugins.stopped_starts_ask.Goals as goal

pub returns : goal.returns
returns g c = stopped_starts_ask g.row.W-Tap.Denot g.W.Link.Kms.link g.W.Link.Kms.step
    g.W.Rand.Dice.left g.W.Rand.Dice.count
