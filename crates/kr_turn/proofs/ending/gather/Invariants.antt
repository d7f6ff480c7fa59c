-- What the loop of `gather` keeps.
use Rattle.std.proofs.Common.{◌≡◌, length, All}
use Rattle.kr_turn.specs.inner.Endings.{IsGathered}
use Rattle.kr_turn.proofs.ending.gather.Given as goal

abbrev pub invariant-loop-seat : goal.invariant-loop-seat
invariant-loop-seat g l = (l.token.table_id ≡ l.lock.table_id)
    × All (λ seat. seat.token.table_id ≡ l.lock.table_id) l.seats.0
    × IsGathered l.fn.first l.fn.seats.0 l.seats.0 l.token.me

abbrev pub decreases-loop-seat : goal.decreases-loop-seat
decreases-loop-seat g l = length l.seats.0
