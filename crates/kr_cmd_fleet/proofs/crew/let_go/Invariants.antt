-- `let_go`: the workers that are left are the first ones.
use Rattle.std.proofs.Common.{length}
use Rattle.kr_cmd_fleet.proofs.Crews.{LetsRest}
use Rattle.kr_cmd_fleet.proofs.crew.let_go.Given as goal

abbrev pub invariant-loop-worker : goal.invariant-loop-worker
invariant-loop-worker g l = LetsRest l.initial.workers.0 l.initial.outfits.0 l.workers.0
    l.outfits.0 l.outfits.1 l.replies.0 l.replies.1

abbrev pub decreases-loop-worker : goal.decreases-loop-worker
decreases-loop-worker g l = length l.workers.0
