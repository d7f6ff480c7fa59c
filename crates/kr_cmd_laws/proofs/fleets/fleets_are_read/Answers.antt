use Rattle.kr_cmd_laws.proofs.FleetReadings.{fleet_readings}
use Rattle.kr_cmd_laws.proofs.fleets.fleets_are_read.Goals as goal

pub returns : goal.returns
returns g c = λ words old new output errors status ran.
    fleet_readings g.row.W-Tap.Denot g.W.Link.Kms.link g.W.Link.Kms.step
    g.W.World.lent g.W.World.took g.W.Rand.Dice.left
    g.W.Rand.Dice.count words old new output errors status ran
