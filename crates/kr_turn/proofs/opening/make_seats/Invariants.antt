-- What the loop of `make_seats` keeps.
use Rattle.std.proofs.Common.{◌≡◌, ◌+◌, ◌≤◌, [], length, Some}
use Rattle.kr_turn.specs.Keys.{terms_of, home_of}
use Rattle.kr_turn.specs.Seats.{AreFresh}
use Rattle.kr_turn.specs.inner.Steps.{maker}
use Rattle.kr_turn.proofs.opening.make_seats.Given as goal

abbrev pub invariant-loop-number : goal.invariant-loop-number
invariant-loop-number g l =
    (l.token.table_id ≡ l.lock.table_id)
    × (l.token.me ≡ (
      maker (Some (terms_of g.S.Turned.basis g.S.Turned.room l.lock.key)) l.number,
      [],
    ))
    × AreFresh (home_of g.S.Turned.basis g.S.Turned.room l.lock.table_id l.lock.key) l.number
    l.seats.0
    × (length l.budgets ≤ l.seats.1 + l.number)
