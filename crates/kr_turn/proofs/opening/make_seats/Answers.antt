-- What the tactic leaves open of `make_seats`.
use Rattle.std.proofs.Common.{rules, arith, ◌≡◌, ℕ, ◌+◌, ◌-◌, [], length, slice_index, ap, sym, ◌∙◌}
use Rattle.std.proofs.Common.{subst, Some}
use Rattle.atomic_table.specs.Table.{Splits}
use Rattle.kr_turn.specs.declared.view.View.{View}
use Rattle.kr_turn.specs.inner.Rule.{KeepsRule}
use Rattle.kr_turn.specs.Keys.{terms_of, home_of, seat_budget}
use Rattle.kr_turn.specs.Seats.{AreFresh}
use Rattle.kr_turn.specs.inner.Steps.{SeatState, next_of, new_of}
use Rattle.kr_turn.proofs.Acts.{rests_by}
use Rattle.kr_turn.proofs.Makes.{splits}
use Rattle.kr_turn.proofs.Rows.{none_fresh, more_fresh, fresh_by}
use Rattle.kr_turn.proofs.opening.make_seats.Goals as goal

pub loop-number-init : goal.loop-number-init
loop-number-init g c = (
  c.requires.lock.0,
  c.requires.maker,
  none_fresh _ _ c.requires.room.0,
  omega (arith, c.requires.room.1),
)

pub split_seat-next-requires : goal.split_seat-next-requires
split_seat-next-requires g c =
    let T = g.S.Turned in
    let terms = terms_of T.basis T.room c.args.lock.now.key in
    let number : ℕ = c.loop-number.number in
    let long : length terms.budgets ≡ length c.args.budgets.now = ap length c.requires.budgets.0 in (
      search rules,
      search rules,
      subst (λ (v : View g.row.S-Line.Denot g.row.S-Ground.Denot).
          Splits (KeepsRule T.lines T.basis T.room T.seat_of terms) c.loop-number.token.id v
          (next_of v) (new_of v)) (sym (ap (λ m. m.0) c.loop-number.invariant.1))
          (splits T.lines T.basis T.room T.seat_of terms c.loop-number.token.id number
          (seat_budget (Some terms) number) (number + 1)
          (omega (arith, c.loop-number-test.true, long))),
    )

pub sit-requires-clause-rests : goal.sit-requires-clause-rests
sit-requires-clause-rests g c =
    let is = c.split_seat-next.ensures.4
    ∙ ap (λ m. let n : SeatState g.row.S.Denot g.row.S-Line.Denot g.row.S-Ground.Denot =
    (new_of m.0, []) in n) c.loop-number.invariant.1 in
    rests_by c.split_seat-next.result c.loop-number.number _ (ap (λ m. m.0.stage) is)
    (ap (λ m. m.0.number) is) (ap (λ m. m.0.left) is
    ∙ ap (λ l. slice_index l c.loop-number.number) c.requires.budgets.0)
    (ap (λ m. m.0.ended) is) (ap (λ m. m.1) is)

pub sit-requires-clause-counted : goal.sit-requires-clause-counted
sit-requires-clause-counted g c =
    let is = c.split_seat-next.ensures.4
    ∙ ap (λ m. let n : SeatState g.row.S.Denot g.row.S-Line.Denot g.row.S-Ground.Denot =
    (new_of m.0, []) in n) c.loop-number.invariant.1 in
    let none : length c.split_seat-next.result.me.0.mine ≡ 0 = ap (λ m. length m.0.mine) is in
    let budget = ap (λ m. seat_budget m.0.terms c.loop-number.number) is
    ∙ ap (λ l. slice_index l c.loop-number.number) c.requires.budgets.0 in
    omega (arith, none, budget)

pub push_in_room-requires : goal.push_in_room-requires
push_in_room-requires g c = omega (arith, c.loop-number.invariant.3, c.loop-number-test.true)

pub loop-number-preserved : goal.loop-number-preserved
loop-number-preserved g c =
    let T = g.S.Turned in
    let home = home_of T.basis T.room c.args.lock.now.table_id c.args.lock.now.key in
    let number : ℕ = c.loop-number.number in
    let split = c.split_seat-next.ensures in
    let is = split.4 ∙ ap (λ m. let n : SeatState g.row.S.Denot g.row.S-Line.Denot
    g.row.S-Ground.Denot = (new_of m.0, []) in n) c.loop-number.invariant.1 in
    let fresh = fresh_by home c.sit.result c.split_seat-next.result number _ c.sit.ensures
    (split.3 ∙ c.loop-number.invariant.0) (ap (λ m. m.0.terms) is) (ap (λ m. m.0.seen) is)
    (ap (λ m. m.0.mine) is)
    (ap (λ l. slice_index l number) (sym c.requires.budgets.0)) in (
      split.0 ∙ c.loop-number.invariant.0,
      split.2 ∙ ap (λ m. let n : SeatState g.row.S.Denot g.row.S-Line.Denot g.row.S-Ground.Denot =
          (next_of m.0, m.1) in n) c.loop-number.invariant.1,
      more_fresh home number c.loop-number.seats.0 c.sit.result c.push_in_room.new.self.0
          c.loop-number.invariant.2 fresh c.sit.ensures.1 c.push_in_room.ensures.items,
      omega (arith, c.loop-number.invariant.3, c.push_in_room.ensures.room),
    )

pub sit-requires-2-clause-rests : goal.sit-requires-2-clause-rests
sit-requires-2-clause-rests g c =
    let last : c.loop-number.number ≡ length c.args.budgets.now - 1 =
    omega (arith, c.loop-number-test.false, c.loop-number.auto.number-end) in
    let is = c.loop-number.invariant.1 in
    rests_by c.loop-number.token _ _ (ap (λ m. m.0.stage) is) (ap (λ m. m.0.number) is ∙ last)
    (ap (λ m. m.0.left) is ∙ (ap (λ l. slice_index l c.loop-number.number) c.requires.budgets.0
    ∙ ap (slice_index c.args.budgets.now) last)) (ap (λ m. m.0.ended) is) (ap (λ m. m.1) is)

pub sit-requires-2-clause-counted : goal.sit-requires-2-clause-counted
sit-requires-2-clause-counted g c =
    let is = c.loop-number.invariant.1 in
    let none : length c.loop-number.token.me.0.mine ≡ 0 = ap (λ m. length m.0.mine) is in
    let budget = ap (λ m. seat_budget m.0.terms (length c.args.budgets.now - 1)) is
    ∙ ap (λ l. slice_index l (length c.args.budgets.now - 1)) c.requires.budgets.0 in
    omega (arith, none, budget)

pub push_in_room-requires-2 : goal.push_in_room-requires-2
push_in_room-requires-2 g c =
    omega (arith, c.loop-number.invariant.3, c.loop-number.auto.number-end, c.requires.budgets.1)

pub returns : goal.returns
returns g c =
    let T = g.S.Turned in
    let home = home_of T.basis T.room c.args.lock.now.table_id c.args.lock.now.key in
    let number : ℕ = c.loop-number.number in
    let last : number ≡ length c.args.budgets.now - 1 =
    omega (arith, c.loop-number-test.false, c.loop-number.auto.number-end) in
    let count : number + 1 ≡ length c.args.budgets.now =
    omega (arith, last, c.requires.budgets.1) in
    let is = c.loop-number.invariant.1 in
    let fresh = fresh_by home c.sit-2.result c.loop-number.token _ _ c.sit-2.ensures
    c.loop-number.invariant.0 (ap (λ m. m.0.terms) is) (ap (λ m. m.0.seen) is)
    (ap (λ m. m.0.mine) is)
    (ap (λ l. slice_index l (length c.args.budgets.now - 1)) (sym c.requires.budgets.0)) in
    subst (λ n. AreFresh home n c.push_in_room-2.new.self.0) count
    (more_fresh home number c.loop-number.seats.0 c.sit-2.result c.push_in_room-2.new.self.0
    c.loop-number.invariant.2 fresh (c.sit-2.ensures.1 ∙ sym last)
    c.push_in_room-2.ensures.items)
