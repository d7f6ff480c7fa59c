use Rattle.std.proofs.Common.{take}
use Rattle.kr_config.specs.Kept.{rows_of}
use Rattle.kr_config.specs.inner.Written.{AreOfBytes}
use Rattle.kr_config.proofs.writing.tell_secrets.Given as goal

abbrev pub invariant-loop-entry : goal.invariant-loop-entry
invariant-loop-entry l = AreOfBytes (rows_of (take l.entry-index l.entries))
