-- The names of the programs so far.
use Rattle.std.proofs.Common.{◌≡◌, take}
use Rattle.kr_cmd_steps.specs.inner.ProgramNames.{names_in}
use Rattle.kr_cmd_steps.proofs.programs.program_plugins.Given as goal

abbrev pub invariant-loop-program : goal.invariant-loop-program
invariant-loop-program l = l.names.0 ≡ names_in (take l.program-index l.programs)
