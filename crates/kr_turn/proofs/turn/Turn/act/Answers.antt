-- What the tactic leaves open of `act`.
use Rattle.std.proofs.Common.{arith, ◌≡◌, ◌+◌, ◌-◌, [], ◌∷◌, length, length-append, ap, ◌∙◌}
use Rattle.kr_turn.specs.Keys.{seat_budget}
use Rattle.kr_turn.specs.inner.Tokens.{resting_token}
use Rattle.kr_turn.proofs.turn.Turn.act.Goals as goal

pub invariant_of-seat : goal.invariant_of-seat
invariant_of-seat g c =
    let was = c.args.seat.now in
    let after = c.take_turn-answer.new.token in
    let left : was.token.me.0.left ≡ was.left = ap (λ t. t.me.0.left) was.rests in
    let some_left = c.if-seat-eq0.false in
    let counted : length was.token.me.0.mine + was.left
    ≡ seat_budget was.token.me.0.terms was.number = was.counted in
    let acted = c.take_turn-answer.ensures.acted c.args.self.now.terms c.requires.seat.terms in
    let long : length after.me.0.mine ≡ length was.token.me.0.mine + 1 =
    ap length acted.mine_is ∙ length-append was.token.me.0.mine (acted.line ∷ []) in
    let budget : seat_budget after.me.0.terms was.number ≡ seat_budget was.token.me.0.terms was.number =
    ap (λ terms. seat_budget terms was.number) c.take_turn-answer.ensures.terms in
    record {
      rests = c.take_turn-answer.ensures.rests
          ∙ ap (λ n. resting_token after was.number (n - 1)) left;
      counted = omega arith;
    }
