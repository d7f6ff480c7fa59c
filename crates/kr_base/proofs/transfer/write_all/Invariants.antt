use Rattle.std.proofs.Common.{length, ◌-◌}
use Rattle.kr_base.proofs.Transferring.{Wrote}
use Rattle.kr_base.proofs.transfer.write_all.Given as goal

abbrev pub invariant-loop-written : goal.invariant-loop-written
invariant-loop-written g l = Wrote (g.S.Sink.held l.initial.sink) (g.S.Sink.held l.sink) l.bytes l.written (g.S.Sink.count l.initial.sink) (g.S.Sink.count l.sink)

abbrev pub decreases-loop-written : goal.decreases-loop-written
decreases-loop-written g l = length l.bytes - l.written
