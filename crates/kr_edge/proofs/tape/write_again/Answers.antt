-- A file whose writes were all interrupted is as it was.
use Rattle.kr_edge.proofs.Pieces.{front_of_all}
use Rattle.kr_edge.proofs.tape.write_again.Goals as goal

pub returns-clause-front : goal.returns-clause-front
returns-clause-front g c = front_of_all _ _ c.args.at c.loop.invariant.told
