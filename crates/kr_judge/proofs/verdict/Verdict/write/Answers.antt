use Rattle.std.proofs.Common.{OnOk, OnErr, sym, ap, subst}
use Rattle.std.specs.Io.KnownBytes.{Appends}
use Rattle.kr_base.specs.Streams.{AppendsFront}
use Rattle.kr_judge.specs.Texts.{verdict_text}
use Rattle.kr_judge.proofs.verdict.Verdict.write.Goals as goal

pub returns-in-DropsWriter-clause-ok : goal.returns-in-DropsWriter-clause-ok
returns-in-DropsWriter-clause-ok g c = subst (λ l. OnOk c.write_numbered.result (Appends (g.S.Sink.held c.args.sink.now) (g.S.Sink.held c.write_numbered.new.sink) l))
    (sym (ap verdict_text c.in-DropsWriter.is)) c.write_numbered.ensures.ok

pub returns-in-DropsWriter-clause-err : goal.returns-in-DropsWriter-clause-err
returns-in-DropsWriter-clause-err g c = subst (λ l. OnErr c.write_numbered.result (AppendsFront (g.S.Sink.held c.args.sink.now) (g.S.Sink.held c.write_numbered.new.sink) l))
    (sym (ap verdict_text c.in-DropsWriter.is)) c.write_numbered.ensures.err
