use Rattle.std.proofs.Common.{◌≡◌, ◌-◌, length}
use denote.Text.{Utf8}
use denote.Shadow.{shadow}
use Rattle.kr_yaml.specs.inner.ScalarReading.{with_front}
use Rattle.kr_yaml.specs.inner.LineReading.{scalars}
use Rattle.kr_yaml.specs.Shown.{views}
use Rattle.kr_yaml.proofs.line.scalars.Given as goal

abbrev pub invariant-scalars : goal.invariant-scalars
invariant-scalars l = shadow (Utf8 l.rest) × (scalars (length l.text) l.text
    ≡ with_front (views l.trees.0) (scalars (length l.text - l.step) l.rest))
