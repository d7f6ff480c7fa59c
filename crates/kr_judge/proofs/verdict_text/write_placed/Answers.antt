use Rattle.std.proofs.Common.{OnOk, OnErr, subst}
use Rattle.std.specs.Io.KnownBytes.{Appends}
use Rattle.kr_base.specs.Streams.{AppendsFront}
use Rattle.kr_judge.proofs.Pieces.{placed_pieces}
use Rattle.kr_judge.proofs.verdict_text.write_placed.Goals as goal

pub returns-clause-ok : goal.returns-clause-ok
returns-clause-ok g c = subst (λ l. OnOk c.write_each.result (Appends (g.S.Sink.held c.args.sink.now) (g.S.Sink.held c.write_each.new.sink) l))
    (placed_pieces c.args.name.now c.args.digits.now c.class_words.result.0.now c.class_words.result.1.now c.who_words.result.0.now c.who_words.result.1.now c.args.class.now c.args.who.now c.class_words.ensures c.who_words.ensures) c.write_each.ensures.ok

pub returns-clause-err : goal.returns-clause-err
returns-clause-err g c = subst (λ l. OnErr c.write_each.result (AppendsFront (g.S.Sink.held c.args.sink.now) (g.S.Sink.held c.write_each.new.sink) l))
    (placed_pieces c.args.name.now c.args.digits.now c.class_words.result.0.now c.class_words.result.1.now c.who_words.result.0.now c.who_words.result.1.now c.args.class.now c.args.who.now c.class_words.ensures c.who_words.ensures) c.write_each.ensures.err
