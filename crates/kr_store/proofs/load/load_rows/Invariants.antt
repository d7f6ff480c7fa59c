-- The loop of load_rows.
use Rattle.std.proofs.Common.{◌-◌}
use Rattle.kr_store.proofs.Loading.{IsReadTo}
use Rattle.kr_store.proofs.load.load_rows.Given as goal

abbrev pub invariant-loop-alloc : goal.invariant-loop-alloc
invariant-loop-alloc g l = IsReadTo l.fn.reader l.reader l.format l.rows.0 l.index

abbrev pub decreases-loop-alloc : goal.decreases-loop-alloc
decreases-loop-alloc g l = l.reader.end - l.reader.place
