-- By how much a count of faults rises at what a phase answers.
use Rattle.std.specs.Prelude.{Bool, true, false}
use Rattle.kr_cmd_messages.specs.declared.refusal.Stop.{Stop}
use Rattle.kr_cmd_messages.specs.declared.refusal.Stop.TheVariants.{Fault}

-- whether a stop tells a fault; a count rises by one where it does, and else it stays
abbrev pub is_fault : Stop → Bool
is_fault (Fault object count) = true
is_fault stop = false
