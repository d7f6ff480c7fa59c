use Rattle.std.proofs.Common.{◌++◌, OnOk, OnErr, ap, subst}
use Rattle.std.specs.Io.KnownBytes.{Appends}
use Rattle.kr_base.specs.Streams.{AppendsFront}
use Rattle.kr_judge.specs.Texts.{place_text}
use Rattle.kr_judge.proofs.verdict_text.write_numbered.Goals as goal

pub returns-clause-ok : goal.returns-clause-ok
returns-clause-ok g c = subst (λ l. OnOk c.write_placed.result (Appends (g.S.Sink.held c.args.sink.now) (g.S.Sink.held c.write_placed.new.sink) l))
    (ap (λ d. c.args.name.now ++ place_text d c.args.class.now c.args.who.now) c.format-digits.ensures.text) c.write_placed.ensures.ok

pub returns-clause-err : goal.returns-clause-err
returns-clause-err g c = subst (λ l. OnErr c.write_placed.result (AppendsFront (g.S.Sink.held c.args.sink.now) (g.S.Sink.held c.write_placed.new.sink) l))
    (ap (λ d. c.args.name.now ++ place_text d c.args.class.now c.args.who.now) c.format-digits.ensures.text) c.write_placed.ensures.err
