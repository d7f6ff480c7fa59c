-- What the tactic leaves open of `take_turn`.
use Rattle.std.proofs.Common.{rules, ◌-◌, ◌∷◌, ap, sym, ◌∙◌, subst, Some}
use Rattle.atomic_table.specs.Table.{rest}
use Rattle.kr_turn.specs.declared.view.View.{View}
use Rattle.kr_turn.specs.inner.Steps.{SeatState, IsServed}
use Rattle.kr_turn.proofs.Acts.{one_in_hand, has_in_hand, some_same, rests_by, turned_held}
use Rattle.kr_turn.proofs.Acts.{makes_turn}
use Rattle.kr_turn.proofs.lock.take_turn.Goals as goal

pub exchange-requires : goal.exchange-requires
exchange-requires g c = let served = c.wait.ensures.served in
    (search rules, (Some served.state, has_in_hand _ _ _ (ap (λ m. m.1) served.now)))

pub release_turn-requires-clause-turned : goal.release_turn-requires-clause-turned
release_turn-requires-clause-turned g c κs within =
    let T = g.S.Turned in
    let v : View g.row.S-Line.Denot g.row.S-Ground.Denot = c.args.token.now.me.0 in
    let served = subst (λ (m : SeatState g.row.S.Denot g.row.S-Line.Denot g.row.S-Ground.Denot).
    IsServed T.lines T.basis T.room T.seat_of c.draw-ticket.result m c.wait.new.token.me)
    c.draw-ticket.ensures.drew c.wait.ensures.served in
    let line = c.turn-answer.ensures.line in
    let same = some_same _ _ (sym c.unwrap-state.ensures
    ∙ one_in_hand _ _ _ _ _ _ (ap (λ m. m.1) served.now) c.exchange.ensures.2) in
    let view_is = ap (λ m. m.0) c.exchange-taken.ensures.3
    ∙ (ap (λ m. m.0) c.exchange.ensures.3 ∙ ap (λ m. m.0) served.now) in
    let carries = ap (λ m. m.1) c.exchange-taken.ensures.3
    ∙ ap (λ cs. (0, Some c.turn-answer.new.self) ∷ cs)
    (ap (λ m. rest m.1) c.exchange.ensures.3 ∙ ap (λ m. rest m.1) served.now) in
    turned_held T.lines T.basis T.room T.seat_of T.law T.tells v c.draw-ticket.result
    c.wait.new.token.me c.exchange-taken.new.seat.me c.unwrap-state.result
    c.turn-answer.new.self line.0 c.args.number served
    (ap (λ t. t.me.0.number) c.requires.rests) same view_is carries line.1 line.2
    c.turn-answer.ensures.kept

pub returns-clause-rests : goal.returns-clause-rests
returns-clause-rests g c =
    let view_is = ap (λ m. m.0) c.exchange-taken.ensures.3
    ∙ (ap (λ m. m.0) c.exchange.ensures.3
    ∙ (ap (λ m. m.0) c.wait.ensures.served.now
    ∙ ap (λ m. Rattle.kr_turn.specs.inner.Steps.holding_view m.0
    (g.S.Turned.lines c.wait.ensures.served.state)) c.draw-ticket.ensures.drew)) in
    let passed = c.release_turn.ensures.passed in
    rests_by c.release_turn.new.token c.args.number (c.args.token.now.me.0.left - 1)
    (ap (λ m. m.0.stage) passed)
    (ap (λ m. m.0.number) passed
    ∙ (ap (λ w. w.number) view_is ∙ ap (λ t. t.me.0.number) c.requires.rests))
    (ap (λ m. m.0.left) passed ∙ ap (λ w. w.left) view_is)
    (ap (λ m. m.0.ended) passed ∙
    (ap (λ w. w.ended) view_is ∙ ap (λ t. t.me.0.ended) c.requires.rests))
    (ap (λ m. m.1) passed)

pub returns-clause-acted : goal.returns-clause-acted
returns-clause-acted g c =
    let T = g.S.Turned in
    let v : View g.row.S-Line.Denot g.row.S-Ground.Denot = c.args.token.now.me.0 in
    let served = subst (λ (m : SeatState g.row.S.Denot g.row.S-Line.Denot g.row.S-Ground.Denot).
    IsServed T.lines T.basis T.room T.seat_of c.draw-ticket.result m c.wait.new.token.me)
    c.draw-ticket.ensures.drew c.wait.ensures.served in
    let line = c.turn-answer.ensures.line in
    let same = some_same _ _ (sym c.unwrap-state.ensures
    ∙ one_in_hand _ _ _ _ _ _ (ap (λ m. m.1) served.now) c.exchange.ensures.2) in
    let view_is = ap (λ m. m.0) c.exchange-taken.ensures.3
    ∙ (ap (λ m. m.0) c.exchange.ensures.3 ∙ ap (λ m. m.0) served.now) in
    let carries = ap (λ m. m.1) c.exchange-taken.ensures.3
    ∙ ap (λ cs. (0, Some c.turn-answer.new.self) ∷ cs)
    (ap (λ m. rest m.1) c.exchange.ensures.3 ∙ ap (λ m. rest m.1) served.now) in
    makes_turn T.lines T.basis T.room T.seat_of T.law T.tells v c.draw-ticket.result
    c.wait.new.token.me c.exchange-taken.new.seat.me c.unwrap-state.result
    c.turn-answer.new.self line.0 c.args.number served
    (ap (λ t. t.me.0.number) c.requires.rests) same view_is carries line.1 line.2 c.args.event
    c.turn-answer.result c.release_turn.new.token.me.0 (ap (λ m. m.0) c.release_turn.ensures.passed)
    line.3
    c.turn-answer.ensures.law_before c.turn-answer.ensures.law_after
