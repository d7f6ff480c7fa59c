use Rattle.std.proofs.Common.{length}
use Rattle.std.specs.Str.Lines.{lines}
use Rattle.kr_yaml.proofs.Following.{Reading}
use Rattle.kr_yaml.proofs.reading.read_lines.Given as goal

abbrev pub invariant-each : goal.invariant-each
invariant-each l = Reading (lines l.text) (length l.yielded) l.number l.first l.progress
