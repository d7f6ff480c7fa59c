-- A number with one group more passes 64 bits.
use Rattle.std.proofs.Common.{◌≤◌, ◌^◌, drop, arith}
use Rattle.kr_envelope.specs.Wire.{number}
use Rattle.kr_envelope.proofs.Varints.{number_past}
use Rattle.kr_envelope.proofs.wire.groups_value.Goals as goal

pub returns-then-value : goal.returns-then-value
returns-then-value c =
    let high : 2 ^ 57 ≤ number (drop c.loop-at.at c.args.groups.now) = omega (arith, c.loop-at.invariant.1, c.if-value.true) in
    number_past c.args.groups.now c.loop-at.at c.loop-at-test.true c.loop-at.invariant.0 high
