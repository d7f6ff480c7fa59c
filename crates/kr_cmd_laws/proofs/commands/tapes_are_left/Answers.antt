use Rattle.kr_cmd_laws.proofs.Leaving.{tapes_left}
use Rattle.kr_cmd_laws.proofs.commands.tapes_are_left.Goals as goal

pub returns : goal.returns
returns c = λ words old new output errors status ran.
    tapes_left words old new output errors status ran.result ran.answers ran.tells
