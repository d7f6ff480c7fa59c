-- What the tactic leaves open of `new`.
use Rattle.std.proofs.Common.{arith, sum, ap}
use Rattle.kr_turn.specs.Keys.{terms_of}
use Rattle.kr_turn.proofs.Makes.{begins}
use Rattle.kr_turn.proofs.turn.Turn.new.Goals as goal

pub vacant-made-requires : goal.vacant-made-requires
vacant-made-requires g c =
    let T = g.S.Turned in
    let same = ap sum c.in-Ok.ensures.items in
    begins T.lines T.basis T.room T.seat_of
    (terms_of T.basis T.room (record { state = c.args.state; budgets = c.in-Ok.copy }))
    (omega (arith, same, c.requires.room)) (omega (arith, same, c.requires.small))
