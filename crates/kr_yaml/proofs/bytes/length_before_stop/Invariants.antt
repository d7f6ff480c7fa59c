use Rattle.std.proofs.Common.{◌≡◌, ◌+◌, drop}
use Rattle.kr_yaml.specs.inner.Stops.{stops, length_before_stop}
use Rattle.kr_yaml.proofs.bytes.length_before_stop.Given as goal

abbrev pub invariant-loop-index : goal.invariant-loop-index
invariant-loop-index l = length_before_stop (stops l.stop) l.bytes ≡ l.index + length_before_stop (stops l.stop)
    (drop l.index l.bytes)
