-- So many lines were answered, and these bytes are pending.
use Rattle.std.proofs.Common.{◌≡◌}
use Rattle.kr_keywrap.specs.inner.Lines.{HasServed}
use Rattle.kr_keywrap.proofs.serving.serve_lines.Given as goal

abbrev pub invariant-loop : goal.invariant-loop
invariant-loop g l = record {
  goes : HasServed (record { words = l.words; rounds = l.rounds; key_id = l.key_id })
      (g.S.Source.left l.initial.source) (g.S.Source.left l.source) (g.K.Sink.held l.initial.sink) (g.K.Sink.held l.sink) l.pending l.counter;
  source : g.S.Source.count l.source ≡ g.S.Source.count l.initial.source;
  sink : g.K.Sink.count l.sink ≡ g.K.Sink.count l.initial.sink;
}
