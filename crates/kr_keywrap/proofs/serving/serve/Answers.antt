-- The lines are answered under the words of the key.
use Rattle.std.proofs.Common.{subst}
use Rattle.kr_base.specs.Faults.{Rose}
use Rattle.kr_keywrap.specs.Answer.{Plugin}
use Rattle.kr_keywrap.specs.Serving.{Serves}
use Rattle.kr_keywrap.proofs.serving.serve.Goals as goal

pub returns-clause-served : goal.returns-clause-served
returns-clause-served g c =
    let P : Plugin → Type 0 = λ p. Serves p (g.S.Source.left c.args.source.now) (g.S.Source.left c.serve_lines.new.source) (g.K.Sink.held c.args.sink.now) (g.K.Sink.held c.serve_lines.new.sink)
    (Rose (g.S.Source.count c.args.source.now) (g.S.Source.count c.serve_lines.new.source)) (Rose (g.K.Sink.count c.args.sink.now) (g.K.Sink.count c.serve_lines.new.sink)) c.serve_lines.result in (
      c.serve_lines.result,
      c.status.ensures,
      subst P (λ i. record { words = c.expand-rounds.ensures.words i; rounds = c.expand-rounds.ensures.rounds i; key_id = c.args.key_id.now }) c.serve_lines.ensures.served,
      c.serve_lines.ensures.faults,
    )
