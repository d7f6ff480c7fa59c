use Rattle.std.proofs.Common.{◌≡◌, length}
use denote.Text.{Utf8}
use denote.Shadow.{shadow}
use Rattle.kr_yaml.specs.inner.Stops.{trim}
use Rattle.kr_yaml.proofs.bytes.trim.Given as goal

abbrev pub invariant-loop-less : goal.invariant-loop-less
invariant-loop-less l = shadow (Utf8 l.rest) × (trim l.rest ≡ trim l.text)

abbrev pub decreases-loop-less : goal.decreases-loop-less
decreases-loop-less l = length l.rest
