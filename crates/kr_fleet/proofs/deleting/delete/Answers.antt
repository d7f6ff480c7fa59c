-- `delete`: what was answered is told, and nothing is held.
use Rattle.std.proofs.Common.{ℕ, List, [], subst, ◌∙◌}
use Rattle.kr_history.proofs.PartsAdd.{nothing_within}
use Rattle.kr_fleet.specs.SingleCalls.{IsDelete}
use Rattle.kr_fleet.proofs.Single.{deletes}
use Rattle.kr_fleet.proofs.deleting.delete.Goals as goal

pub returns-clause-deletes : goal.returns-clause-deletes
returns-clause-deletes g c =
    let old = g.A.Acts.caller c.args.acts.now in
    let new = g.A.Acts.caller c.delete.new.acts in
    subst (λ (q : List ℕ). IsDelete q old c.delete.result new) c.in-Ok.ensures
    (deletes c.in-Ok.path old new c.delete.result c.delete.ensures.deletes)

pub returns-clause-idle : goal.returns-clause-idle
returns-clause-idle g c = c.delete.ensures.holds ∙ c.requires.idle

pub returns-in_default-clause-adds : goal.returns-in_default-clause-adds
returns-in_default-clause-adds g c = nothing_within 1 0 [] (g.A.Acts.caller c.args.acts.now)
