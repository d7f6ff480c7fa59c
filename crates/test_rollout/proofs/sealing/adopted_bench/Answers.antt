-- `adopted_bench`: what was adopted is shared with the configuration that was given.
use Rattle.std.proofs.Common.{◌≡◌, Some, subst}
use Rattle.std.specs.Prelude.{IfOk}
use Rattle.kr_provider.specs.Publication.{Publication}
use Rattle.test_rollout.proofs.sealing.adopted_bench.Goals as goal

pub returns-in-Ok : goal.returns-in-Ok
returns-in-Ok c = subst (λ (p : Publication). IfOk c.adopted.result
    (λ bench. bench.published ≡ Some p)) c.in_ok-own.ensures c.adopted.ensures
