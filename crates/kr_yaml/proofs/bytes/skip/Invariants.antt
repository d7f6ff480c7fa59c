use Rattle.std.proofs.Common.{◌≡◌, length}
use denote.Text.{Utf8}
use denote.Shadow.{shadow}
use Rattle.kr_yaml.specs.Bytes.{skip}
use Rattle.kr_yaml.proofs.bytes.skip.Given as goal

abbrev pub invariant-loop-more : goal.invariant-loop-more
invariant-loop-more l = shadow (Utf8 l.rest) × (skip l.rest ≡ skip l.text)

abbrev pub decreases-loop-more : goal.decreases-loop-more
decreases-loop-more l = length l.rest
