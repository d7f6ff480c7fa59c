-- Why a core didn't start, as a command says it.
use Rattle.kr_opening.specs.declared.opening_board.StartNo.{StartNo}
use Rattle.kr_opening.specs.declared.opening_board.StartNo.TheVariants as no
use Rattle.kr_cmd_messages.specs.declared.refusal.Refusal.TheVariants.{Stray, OtherSecret, Unfit}
use Rattle.kr_cmd_messages.specs.declared.refusal.Stop.{Stop}
use Rattle.kr_cmd_messages.specs.declared.refusal.Stop.TheVariants.{Refused, NoMemory}

-- why a core didn't start, as a command says it
abbrev pub start_stop : StartNo → Stop
start_stop (no.Stray path) = Refused (Stray path)
start_stop (no.OtherSecret path) = Refused (OtherSecret path)
start_stop (no.Unfit replica verdict) = Refused (Unfit replica verdict)
start_stop no.NoMemory = NoMemory
