use Rattle.std.proofs.Common.{All, take}
use Rattle.kr_config.specs.inner.Written.{IsOfBytes}
use Rattle.kr_config.proofs.writing.tell_key_bytes.Given as goal

abbrev pub invariant-loop-who : goal.invariant-loop-who
invariant-loop-who l = All IsOfBytes (take l.who-index l.providers)
