-- What the loop of `write_journal` keeps.
use Rattle.std.proofs.Common.{drop}
use Rattle.kr_script.specs.Fleets.{fleet_of}
use Rattle.kr_script.specs.Output.{journal_texts, lines_text}
use Rattle.kr_script.proofs.Spoken.{Spoke}
use Rattle.kr_script.proofs.fleet_output.write_journal.Given as goal

abbrev pub invariant-loop-number : goal.invariant-loop-number
invariant-loop-number g l = Spoke (g.K.Sink.held l.initial.sink) (g.K.Sink.held l.sink)
    (lines_text (journal_texts (fleet_of l.script) 0 l.journal))
    (lines_text (journal_texts (fleet_of l.script) l.number (drop l.number l.journal)))
    (g.K.Sink.count l.initial.sink) (g.K.Sink.count l.sink)
