-- A tape that is only read stays as it is.
use Rattle.std.proofs.Common.{refl}
use Rattle.kr_edge.proofs.Pieces.{front_of_all}
use Rattle.kr_edge.proofs.tape.FileTapeTape.put_at.Goals as goal

pub returns-then-only_reads-clause-bytes : goal.returns-then-only_reads-clause-bytes
returns-then-only_reads-clause-bytes g c = front_of_all _ _ c.args.at refl
