use Rattle.std.proofs.Common.{OnOk, OnErr, subst}
use Rattle.std.specs.Io.KnownBytes.{Appends}
use Rattle.kr_base.specs.Streams.{AppendsFront}
use Rattle.kr_judge.proofs.Pieces.{stored_pieces}
use Rattle.kr_judge.proofs.verdict_text.write_stored.Goals as goal

pub returns-clause-ok : goal.returns-clause-ok
returns-clause-ok g c = subst (λ l. OnOk c.write_each.result (Appends (g.S.Sink.held c.args.sink.now) (g.S.Sink.held c.write_each.new.sink) l))
    (stored_pieces _ _ _ _ _ c.as_str.ensures c.who_words.ensures) c.write_each.ensures.ok

pub returns-clause-err : goal.returns-clause-err
returns-clause-err g c = subst (λ l. OnErr c.write_each.result (AppendsFront (g.S.Sink.held c.args.sink.now) (g.S.Sink.held c.write_each.new.sink) l))
    (stored_pieces _ _ _ _ _ c.as_str.ensures c.who_words.ensures) c.write_each.ensures.err
