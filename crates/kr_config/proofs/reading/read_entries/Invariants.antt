-- What the loop of `read_entries` keeps.
use Rattle.kr_config.proofs.EntryLoop.{Reading}
use Rattle.kr_config.proofs.reading.read_entries.Given as goal

abbrev pub invariant-loop-value : goal.invariant-loop-value
invariant-loop-value l = Reading l.values l.value-index l.number l.entries.0 l.patterns l.keys
    l.plugins
