-- What the tactic leaves open of `write_parts`.
use Rattle.std.proofs.Common.{List, ◌++◌, codes, ap, map}
use Rattle.kr_script.specs.declared.script.Part.{Part}
use Rattle.kr_script.specs.Fleets.{fleet_of, worker_of}
use Rattle.kr_script.specs.Output.{lines_text, journal_texts, all_texts}
use Rattle.kr_script.proofs.Spoken.{behind_head, behind_journal, behind_middle, behind_replies}
use Rattle.kr_script.proofs.Spoken.{spoke_fails, spoke_last, wrote_as}
use Rattle.kr_script.proofs.fleet_output.write_parts.Goals as goal

pub returns-in-Err-write_journal : goal.returns-in-Err-write_journal
returns-in-Err-write_journal g c =
    let fleet = fleet_of c.args.script.now in
    spoke_fails (g.K.Sink.held c.write_journal.new.sink)
    (lines_text (journal_texts fleet 0 c.args.journal.now))
    (codes "replies\n" ++ (lines_text (all_texts 0 c.args.replies.now fleet.workers)
    ++ codes "end\n")) (g.K.Sink.count c.write_journal.new.sink) c.in-Err-write_journal.why
    (behind_head fleet c.args.journal.now c.args.replies.now (g.K.Sink.held c.args.sink.now)
    (g.K.Sink.held c.put.new.sink) (g.K.Sink.count c.args.sink.now)
    (g.K.Sink.count c.put.new.sink) c.in-Ok.field-0 c.in-Ok.ensures)
    c.in-Err-write_journal.ensures

pub returns-in-Err-put : goal.returns-in-Err-put
returns-in-Err-put g c =
    let fleet = fleet_of c.args.script.now in
    spoke_fails (g.K.Sink.held c.put-2.new.sink) (codes "replies\n")
    (lines_text (all_texts 0 c.args.replies.now fleet.workers) ++ codes "end\n")
    (g.K.Sink.count c.put-2.new.sink) c.in-Err-put.why
    (behind_journal fleet c.args.journal.now c.args.replies.now (g.K.Sink.held c.args.sink.now)
    (g.K.Sink.held c.put.new.sink) (g.K.Sink.held c.write_journal.new.sink)
    (g.K.Sink.count c.args.sink.now) (g.K.Sink.count c.put.new.sink)
    (g.K.Sink.count c.write_journal.new.sink) c.in-Ok.field-0 c.in-Ok-write_journal.field-0
    c.in-Ok.ensures c.in-Ok-write_journal.ensures) c.in-Err-put.ensures

pub returns-in-Err-write_replies : goal.returns-in-Err-write_replies
returns-in-Err-write_replies g c =
    let fleet = fleet_of c.args.script.now in
    spoke_fails (g.K.Sink.held c.write_replies.new.sink)
    (lines_text (all_texts 0 c.args.replies.now fleet.workers)) (codes "end\n")
    (g.K.Sink.count c.write_replies.new.sink) c.in-Err-write_replies.why
    (behind_middle fleet c.args.journal.now c.args.replies.now (g.K.Sink.held c.args.sink.now)
    (g.K.Sink.held c.put.new.sink) (g.K.Sink.held c.write_journal.new.sink)
    (g.K.Sink.held c.put-2.new.sink) (g.K.Sink.count c.args.sink.now)
    (g.K.Sink.count c.put.new.sink) (g.K.Sink.count c.write_journal.new.sink)
    (g.K.Sink.count c.put-2.new.sink) c.in-Ok.field-0 c.in-Ok-write_journal.field-0
    c.in-Ok-put.field-0 c.in-Ok.ensures c.in-Ok-write_journal.ensures c.in-Ok-put.ensures)
    (wrote_as (ap (λ (parts : List Part). lines_text (all_texts 0 c.args.replies.now (map worker_of parts)))
    c.as_slice.ensures) c.in-Err-write_replies.ensures)

pub returns : goal.returns
returns g c =
    let fleet = fleet_of c.args.script.now in
    spoke_last (g.K.Sink.held c.put-3.new.sink) (codes "end\n") (g.K.Sink.count c.put-3.new.sink)
    c.put-3.result
    (behind_replies fleet c.args.journal.now c.args.replies.now (g.K.Sink.held c.args.sink.now)
    (g.K.Sink.held c.put.new.sink) (g.K.Sink.held c.write_journal.new.sink)
    (g.K.Sink.held c.put-2.new.sink) (g.K.Sink.held c.write_replies.new.sink)
    (g.K.Sink.count c.args.sink.now) (g.K.Sink.count c.put.new.sink)
    (g.K.Sink.count c.write_journal.new.sink) (g.K.Sink.count c.put-2.new.sink)
    (g.K.Sink.count c.write_replies.new.sink) c.in-Ok.field-0 c.in-Ok-write_journal.field-0
    c.in-Ok-put.field-0 c.in-Ok-write_replies.field-0 c.in-Ok.ensures
    c.in-Ok-write_journal.ensures c.in-Ok-put.ensures
    (wrote_as (ap (λ (parts : List Part). lines_text (all_texts 0 c.args.replies.now (map worker_of parts)))
    c.as_slice.ensures) c.in-Ok-write_replies.ensures))
    c.put-3.ensures
