-- So many seats were taken back, and there is room for the others.
use Rattle.std.proofs.Common.{◌≤◌, ◌+◌, length}
use Rattle.kr_workers.proofs.Seating.{IsUnseating}
use Rattle.kr_workers.proofs.team.unseat_each.Given as goal

abbrev pub invariant-loop-at : goal.invariant-loop-at
invariant-loop-at g l = IsUnseating l.initial.workers.items l.at l.seats.0 l.workers.items
    × (length l.initial.workers.items ≤ l.seats.1 + l.at)
