-- What the tactic leaves open of `close`.
use Rattle.std.proofs.Common.{sym, subst}
use Rattle.kr_turn.specs.Keys.{home_of}
use Rattle.kr_turn.specs.Seats.{AreAll}
use Rattle.kr_turn.proofs.Rows.{covers, all_stand}
use Rattle.kr_turn.proofs.turn.Turn.close.Goals as goal

pub take_back-requires-clause-all : goal.take_back-requires-clause-all
take_back-requires-clause-all g c κs within =
    let T = g.S.Turned in
    let shared = c.self.inside.table.shared in
    let home = home_of T.basis T.room shared.table_id shared.key in
    covers home c.in-Some.first c.pop.new.self.0 c.args.seats.0 c.gather-token.result.me
    c.in-Some.ensures.items c.gather-token.ensures.gathered
    (subst (λ h. AreAll h c.args.seats.0) (sym c.self.view_is) c.requires)

pub returns-clause-stand : goal.returns-clause-stand
returns-clause-stand g c =
    let T = g.S.Turned in
    let shared = c.self.inside.table.shared in
    let home = home_of T.basis T.room shared.table_id shared.key in
    all_stand home c.in-Some.first c.pop.new.self.0 c.args.seats.0 c.gather-token.result.me
    c.in-Some.ensures.items c.gather-token.ensures.gathered T.lines T.basis T.room T.seat_of
    c.take_back.result c.take_back.ensures
