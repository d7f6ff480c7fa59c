-- The value of the groups from here on.
use Rattle.std.proofs.Common.{◌≡◌, ◌≤◌, length, drop}
use Rattle.kr_envelope.specs.Wire.{number}
use Rattle.kr_envelope.proofs.wire.groups_value.Given as goal

abbrev pub invariant-loop-at : goal.invariant-loop-at
invariant-loop-at l = (l.at ≤ length l.groups) × (l.value ≡ number (drop l.at l.groups))

abbrev pub decreases-loop-at : goal.decreases-loop-at
decreases-loop-at l = l.at
