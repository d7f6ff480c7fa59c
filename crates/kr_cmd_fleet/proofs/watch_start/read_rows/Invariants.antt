-- So many rows were read, and of the bench its links and its cache alone changed.
use Rattle.std.proofs.Common.{◌≡◌}
use Rattle.kr_cmd_fleet.proofs.RowReads.{WalksTo}
use Rattle.kr_cmd_fleet.proofs.watch_start.read_rows.Given as goal

abbrev pub invariant-loop-row : goal.invariant-loop-row
invariant-loop-row g l = WalksTo g.L.Kms.link g.L.Kms.step l.initial.bench.published l.rows
    l.row-index l.items.0 l.initial.bench.links l.bench.links l.bench.cache
    × (l.bench ≡ record l.initial.bench { links = l.bench.links; cache = l.bench.cache })
