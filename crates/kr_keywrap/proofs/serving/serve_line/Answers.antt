-- The answer is that of the bytes before the LF.
use Rattle.std.proofs.Common.{◌≡◌, ℕ, List, Err, subst, rules}
use Rattle.std.specs.Io.KnownBytes.{Appends}
use Rattle.kr_base.specs.Faults.{Rose, counted}
use Rattle.kr_keywrap.specs.Answer.{Plugin, answer}
use Rattle.kr_keywrap.specs.Serving.{serve_failed}
use Rattle.kr_keywrap.specs.inner.Lines.{WritesAnswer}
use Rattle.kr_keywrap.proofs.serving.serve_line.Goals as goal

pub returns-clause-writes : goal.returns-clause-writes
returns-clause-writes g c =
    let plugin : Plugin = record { words = c.args.words.now; rounds = c.args.rounds; key_id = c.args.key_id.now } in
    subst (λ (l : List ℕ). Appends (g.K.Sink.held c.args.sink.now) (g.K.Sink.held c.write_answer.new.sink) (answer plugin l)) c.front.ensures c.in_ok-write_answer.ensures.writes

pub returns-in_err-write_answer-clause-writes : goal.returns-in_err-write_answer-clause-writes
returns-in_err-write_answer-clause-writes g c =
    let plugin : Plugin = record { words = c.args.words.now; rounds = c.args.rounds; key_id = c.args.key_id.now } in
    let stop = subst (λ (l : List ℕ). WritesAnswer plugin l (g.K.Sink.held c.args.sink.now) (g.K.Sink.held c.write_answer.new.sink)
    (Rose (g.K.Sink.count c.args.sink.now) (g.K.Sink.count c.write_answer.new.sink)) (Err c.in_err-write_answer.field-0.0)) c.front.ensures c.in_err-write_answer.ensures.writes in search (rules, stop)

pub returns-in_err-write_answer-clause-once : goal.returns-in_err-write_answer-clause-once
returns-in_err-write_answer-clause-once g c =
    let stop : g.K.Sink.count c.write_answer.new.sink ≡ counted (serve_failed c.in_err-write_answer.field-0.0) (g.K.Sink.count c.args.sink.now) =
    c.in_err-write_answer.ensures.once in search (rules, stop)
