use Rattle.std.proofs.Common.{◌≡◌, ◌-◌}
use Rattle.kr_aes.proofs.Powers.{times_squares}
use Rattle.kr_aes.proofs.field.inverse.Given as goal

abbrev pub invariant-loop : goal.invariant-loop
invariant-loop l = times_squares (7 - l.counter) l.power l.outcome ≡ times_squares 7 l.b 1
