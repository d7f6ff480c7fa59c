use Rattle.kr_cmd_laws.proofs.Readings.{readings}
use Rattle.kr_cmd_laws.proofs.commands.commands_are_read.Goals as goal

pub returns : goal.returns
returns c = λ words old new output errors status ran.
    readings words old new output errors status ran.result ran.answers ran.tells
