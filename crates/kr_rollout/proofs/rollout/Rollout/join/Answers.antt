use Rattle.std.proofs.Common.{◌≡◌, None, subst, ◌∙◌}
use Rattle.kr_rollout.specs.declared.event.Event.TheVariants as event
use Rattle.kr_rollout.specs.States.{current_of}
use Rattle.kr_rollout.specs.inner.Rollouts.{RolloutState}
use Rattle.kr_rollout.proofs.Keeping.{may_before, read_current}
use Rattle.kr_rollout.proofs.rollout.Rollout.join.Goals as goal

pub bring-requires-clause-awaited : goal.bring-requires-clause-awaited
bring-requires-clause-awaited g c =
    let may = may_before c.self.view_is c.args.seat
    (event.Join c.args.replica c.args.published) c.requires.may in
    let is = read_current c.self.invariant.0 c.args.replica c.index.result.now may.0 c.index.ensures
    ∙ c.in_default.is in
    subst (λ (x : RolloutState). current_of x.state c.args.replica ≡ None) c.self.view_is is
