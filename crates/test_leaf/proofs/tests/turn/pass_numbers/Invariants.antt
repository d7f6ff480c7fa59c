use Rattle.std.proofs.Common.{◌≡◌}
use Rattle.kr_turn.specs.Seats.{IsSeatOf, number_of}
use Rattle.test_leaf.proofs.tests.turn.pass_numbers.Given as goal

abbrev pub invariant-loop-number : goal.invariant-loop-number
invariant-loop-number g l = IsSeatOf l.turn l.seat × (number_of l.seat ≡ number_of l.fn.seat)
