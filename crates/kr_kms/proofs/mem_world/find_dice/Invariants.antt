-- What was looked at isn't of the seat.
use Rattle.std.proofs.Common.{◌≡◌, drop}
use Rattle.kr_kms.specs.MemWorld.{first_dice}
use Rattle.kr_kms.proofs.mem_world.find_dice.Given as goal

abbrev pub invariant-loop-entry : goal.invariant-loop-entry
invariant-loop-entry l = first_dice l.dice l.seat ≡ first_dice (drop l.entry-index l.dice) l.seat
