-- Seats are given from the last on; there is room to take each back.
use Rattle.std.proofs.Common.{◌≤◌, ◌+◌, length}
use Rattle.kr_workers.proofs.Seating.{IsSeating}
use Rattle.kr_workers.proofs.team.seat_each.Given as goal

abbrev pub invariant-loop-seat : goal.invariant-loop-seat
invariant-loop-seat g l = IsSeating l.initial.seats.0 l.seats.0 l.initial.workers.items
    l.workers.items
    × (length l.initial.workers.items ≤ l.seats.1 + length l.seats.0)

abbrev pub decreases-loop-seat : goal.decreases-loop-seat
decreases-loop-seat g l = length l.seats.0
