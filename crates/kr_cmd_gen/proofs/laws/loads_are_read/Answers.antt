use Rattle.kr_cmd_gen.proofs.LoadReadings.{load_readings}
use Rattle.kr_cmd_gen.proofs.laws.loads_are_read.Goals as goal

pub returns : goal.returns
returns g c = λ words old new output errors status small ran.
    load_readings g.row.W-Tap.Denot g.W.Link.Kms.link g.W.Link.Kms.step words old
    new output
    errors status small ran
