use Rattle.kr_base.proofs.Pieces.{Spoke}
use Rattle.kr_base.proofs.transfer.write_each.Given as goal

abbrev pub invariant-loop-piece : goal.invariant-loop-piece
invariant-loop-piece g l = Spoke (g.S.Sink.held l.initial.sink) (g.S.Sink.held l.sink) l.pieces l.piece-index (g.S.Sink.count l.initial.sink) (g.S.Sink.count l.sink)
