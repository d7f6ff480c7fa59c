use Rattle.kr_yaml.specs.inner.Seen.{token_views}
use Rattle.kr_yaml.specs.inner.Progress.{Extends}
use Rattle.kr_yaml.proofs.reading.steps.Given as goal

abbrev pub invariant-tokens : goal.invariant-tokens
invariant-tokens l = Extends l.fn.progress l.line (token_views l.yielded) l.progress
