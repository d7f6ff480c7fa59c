use Rattle.std.proofs.Common.{subst, ◌∙◌}
use Rattle.kr_rollout.specs.Answers.{HasExpected}
use Rattle.kr_rollout.specs.declared.event.Event.TheVariants as event
use Rattle.kr_rollout.specs.inner.Rollouts.{RolloutState}
use Rattle.kr_rollout.proofs.Keeping.{may_before, read_current}
use Rattle.kr_rollout.proofs.rollout.Rollout.reload.Goals as goal

pub bring-requires-clause-awaited : goal.bring-requires-clause-awaited
bring-requires-clause-awaited g c =
    let may = may_before c.self.view_is c.args.seat
    (event.Reload c.args.replica c.args.published c.args.expect) c.requires.may in
    let is = read_current c.self.invariant.0 c.args.replica c.index.result.now may.0 c.index.ensures
    ∙ c.in-Some.is in
    subst (λ (x : RolloutState). HasExpected x.state c.args.replica c.args.expect)
    c.self.view_is
    (c.in-Some.generation, is, c.is_expected.ensures.0 c.if-not-is_expected.false)
