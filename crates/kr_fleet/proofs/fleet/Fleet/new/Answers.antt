-- What the tactic leaves open of `new`.
use Rattle.std.proofs.Common.{◌≤◌, [], length, sym, subst}
use Rattle.kr_turn.specs.declared.view.Terms.{Terms}
use Rattle.kr_rollout.specs.declared.opening.Opening.{Opening}
use Rattle.kr_rollout.specs.Histories.{IsLegal}
use Rattle.kr_fleet.proofs.Beginning.{fresh_seats}
use Rattle.kr_fleet.proofs.fleet.Fleet.new.Goals as goal

pub returns-in-Ok-clause-seats : goal.returns-in-Ok-clause-seats
returns-in-Ok-clause-seats g c =
    let back = sym c.in-Ok.ensures.terms in
    let legal = subst (IsLegal c.args.core.opening) c.requires.no_lines c.known.ensures in
    fresh_seats c.in-Ok.turn (length c.args.budgets.now) c.in-Ok.seats.0 c.in-Ok.ensures.seats
    (subst (λ (t : Terms Opening). length c.args.budgets.now ≤ length t.basis.reloads) back
    c.requires.seats)
    (subst (λ (t : Terms Opening). IsLegal t.basis []) back legal)
