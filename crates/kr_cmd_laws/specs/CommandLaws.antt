-- What follows from the relation of a command.
use Rattle.std.specs.Prelude.{ℕ, List}
use Rattle.kr_cmd_steps.specs.Afterwards.{AreLeft}
use Rattle.kr_cmd_steps.specs.Environment.{Environment}
use Rattle.kr_cmd_steps.specs.Ran.{Ran, Readings}
use Rattle.kr_cmd_messages.specs.Receipts.{Receipt}

abbrev pub CommandsAreRead : Type 0
CommandsAreRead = (words : List (List ℕ)) (old new : Environment) (output errors : Receipt)
    (status : ℕ) → Ran words old new output errors status
    → Readings words old new output errors status

abbrev pub TapesAreLeft : Type 0
TapesAreLeft = (words : List (List ℕ)) (old new : Environment) (output errors : Receipt)
    (status : ℕ) → Ran words old new output errors status → AreLeft words old new output status
