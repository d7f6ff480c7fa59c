-- What was looked at isn't the tape.
use Rattle.std.proofs.Common.{◌≡◌, drop}
use Rattle.kr_kms.specs.MemWorld.{first_tape}
use Rattle.kr_kms.proofs.mem_world.find_tape.Given as goal

abbrev pub invariant-loop-entry : goal.invariant-loop-entry
invariant-loop-entry l = first_tape l.tapes l.name ≡ first_tape (drop l.entry-index l.tapes) l.name
