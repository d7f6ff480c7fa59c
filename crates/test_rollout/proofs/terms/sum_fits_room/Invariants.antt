use Rattle.test_rollout.proofs.Starting.{IsWithin}
use Rattle.test_rollout.proofs.terms.sum_fits_room.Given as goal

abbrev pub invariant-loop-number : goal.invariant-loop-number
invariant-loop-number l = IsWithin l.numbers l.room l.left l.number-index
