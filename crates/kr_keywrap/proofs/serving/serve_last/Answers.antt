-- The last line is answered, or there is none.
use Rattle.std.proofs.Common.{length}
use Rattle.kr_base.specs.Faults.{Rose}
use Rattle.kr_keywrap.proofs.Nexts.{last_answered, none_of, nothing_written, some_of}
use Rattle.kr_keywrap.proofs.serving.serve_last.Goals as goal

pub returns-then-is_empty-clause-writes : goal.returns-then-is_empty-clause-writes
returns-then-is_empty-clause-writes g c =
    nothing_written (record { words = c.args.words.now; rounds = c.args.rounds; key_id = c.args.key_id.now }) (g.K.Sink.held c.args.sink.now) c.args.last.now
    (none_of (length c.args.last.now) c.if-is_empty.ensures)

pub returns-clause-writes : goal.returns-clause-writes
returns-clause-writes g c =
    last_answered (record { words = c.args.words.now; rounds = c.args.rounds; key_id = c.args.key_id.now }) (g.K.Sink.held c.args.sink.now) (g.K.Sink.held c.write_answer.new.sink)
    c.args.last.now (some_of (length c.args.last.now) c.if-is_empty.ensures) (Rose (g.K.Sink.count c.args.sink.now) (g.K.Sink.count c.write_answer.new.sink)) c.write_answer.result
    c.write_answer.ensures.writes
