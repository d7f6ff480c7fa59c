-- What the tactic leaves open of `write_journal`.
use Rattle.kr_script.specs.Fleets.{fleet_of}
use Rattle.kr_script.proofs.Spoken.{journal_more, journal_fails, journal_ends}
use Rattle.kr_script.proofs.fleet_output.write_journal.Goals as goal

pub returns-in-Err : goal.returns-in-Err
returns-in-Err g c = journal_fails (fleet_of c.args.script.now) c.args.journal.now
    c.loop-number.number (g.K.Sink.held c.write_line.new.sink) c.index-journal-number.result
    (g.K.Sink.count c.write_line.new.sink) c.in-Err.why c.loop-number-test.true
    c.index-journal-number.is c.loop-number.invariant c.in-Err.ensures

pub loop-number-preserved : goal.loop-number-preserved
loop-number-preserved g c = journal_more (fleet_of c.args.script.now) c.args.journal.now
    c.loop-number.number (g.K.Sink.held c.write_line.new.sink) c.index-journal-number.result
    (g.K.Sink.count c.write_line.new.sink) c.in-Ok.field-0 c.loop-number-test.true
    c.index-journal-number.is c.loop-number.invariant c.in-Ok.ensures

pub returns : goal.returns
returns g c = journal_ends (fleet_of c.args.script.now) c.args.journal.now c.loop-number.number _
    c.loop-number-test.false c.loop-number.invariant
