-- `push_all`: one copy more in each turn.
use Rattle.std.proofs.Common.{◌∙◌}
use Rattle.kr_plan.proofs.Steps.{copied_end, copied_more}
use Rattle.kr_plan.proofs.merging.push_all.Goals as goal

pub loop-who-preserved : goal.loop-who-preserved
loop-who-preserved c =
    let l = c.loop-who in
    c.in_ok-push.ensures.items
    ∙ copied_more c.args.providers.now.items c.args.one.now l.who-index c.who-item.result
    c.in_ok-copy.field-0 l.providers.items l.invariant c.loop-who-test.true c.who-item.is
    c.in_ok-copy.ensures

pub returns : goal.returns
returns c =
    let l = c.loop-who in
    copied_end c.args.providers.now.items c.args.one.now l.who-index l.providers.items l.invariant
    c.loop-who-test.false
