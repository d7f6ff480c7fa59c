-- What the tactic leaves open of `close`.
use Rattle.std.proofs.Common.{◌≡◌, ℕ, ◌≤◌, [], length, subst, ap, ◌∙◌}
use Rattle.kr_base.specs.Lines.{of_seat}
use Rattle.kr_turn.specs.Keys.{Home}
use Rattle.kr_rollout.specs.declared.opening.Opening.{Opening}
use Rattle.kr_rollout.specs.Entries.{seat_of}
use Rattle.kr_rollout.specs.Histories.{IsLegal}
use Rattle.kr_fleet.proofs.Closing.{added_by, honest_by}
use Rattle.kr_fleet.proofs.fleet.Fleet.close.Goals as goal

pub returns-clause-added : goal.returns-clause-added
returns-clause-added g c =
    let history = c.close-core.result.core.history in
    let no_other = subst (λ (h : Home Opening). (number : ℕ) → length h.terms.budgets ≤ number
    → of_seat seat_of number history ≡ []) c.self.view_is c.close-core.ensures.no_other in
    added_by c.args.self c.args.seats.0 history c.requires c.close-core.ensures.stand no_other

pub returns-clause-honest : goal.returns-clause-honest
returns-clause-honest g c =
    let history = c.close-core.result.core.history in
    let no_other = subst (λ (h : Home Opening). (number : ℕ) → length h.terms.budgets ≤ number
    → of_seat seat_of number history ≡ []) c.self.view_is c.close-core.ensures.no_other in
    let basis = c.close-core.ensures.kept.0 ∙ ap (λ (h : Home Opening). h.terms.basis) c.self.view_is in
    honest_by c.args.self c.args.seats.0 history c.requires c.close-core.ensures.stand no_other
    (subst (λ (o : Opening). IsLegal o history) basis c.known.ensures)
