-- `push_reloads`: one move more in each turn.
use Rattle.std.proofs.Common.{◌∙◌}
use Rattle.kr_plan.proofs.Steps.{reloads_more}
use Rattle.kr_plan.proofs.moves.push_reloads.Goals as goal

pub loop-replica-preserved : goal.loop-replica-preserved
loop-replica-preserved c =
    let l = c.loop-replica in
    c.in_ok-push.ensures.items
    ∙ reloads_more c.args.phase l.replica c.args.moves.now.items l.moves.items l.invariant
