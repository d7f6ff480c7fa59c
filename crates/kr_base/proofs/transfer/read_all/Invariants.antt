use Rattle.kr_base.proofs.Transferring.{Took}
use Rattle.kr_base.proofs.transfer.read_all.Given as goal

abbrev pub invariant-loop : goal.invariant-loop
invariant-loop g l = Took (g.S.Source.left l.initial.source) (g.S.Source.left l.source) l.taken.items l.counter l.limit (g.S.Source.count l.initial.source) (g.S.Source.count l.source)
