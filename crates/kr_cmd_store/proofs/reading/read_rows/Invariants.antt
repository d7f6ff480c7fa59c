-- `read_rows`: so many rows were read.
use Rattle.kr_cmd_store.proofs.RowReading.{HasRead}
use Rattle.kr_cmd_store.proofs.reading.read_rows.Given as goal

abbrev pub invariant-loop-row : goal.invariant-loop-row
invariant-loop-row g l = HasRead g.L.Kms.link g.D.Dice.left g.D.Dice.count
    g.L.Kms.step l.rows l.initial.bench l.row-index l.findings.0 l.bench
