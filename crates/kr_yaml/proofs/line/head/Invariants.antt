use Rattle.std.proofs.Common.{length}
use denote.Text.{Utf8}
use denote.Shadow.{shadow}
use Rattle.kr_yaml.specs.inner.Seen.{token_views}
use Rattle.kr_yaml.proofs.Heads.{Heads}
use Rattle.kr_yaml.proofs.line.head.Given as goal

abbrev pub invariant-dashes : goal.invariant-dashes
invariant-dashes l = shadow (Utf8 l.rest) × Heads l.text (token_views l.tokens.0) l.rest

abbrev pub decreases-dashes : goal.decreases-dashes
decreases-dashes l = length l.rest
