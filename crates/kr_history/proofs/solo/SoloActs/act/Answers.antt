use Rattle.std.proofs.Common.{subst}
use Rattle.kr_history.specs.Acting.{Caller, AddsEntry, only_caller}
use Rattle.kr_history.proofs.Alone.{acted_alone, not_full}
use Rattle.kr_history.proofs.solo.SoloActs.act.Goals as goal

pub returns-clause-acted : goal.returns-clause-acted
returns-clause-acted g c =
    subst (λ (x : Caller). AddsEntry x c.args.event c.apply.result (only_caller c.apply.new.self))
    c.self.view_is
    (acted_alone c.self.inside.core c.apply.new.self c.args.event c.apply.result
    c.apply.ensures.applied c.known.ensures
    (not_full c.is_full.result _ _ c.is_full.ensures c.if-is_full.false))
