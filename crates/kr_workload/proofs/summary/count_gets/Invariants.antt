-- `count_gets`: those of the workers so far, and of the others.
use Rattle.std.proofs.Common.{◌≡◌, ◌+◌, ◌*◌, ◌≤◌, ◌^◌, drop}
use Rattle.kr_workload.specs.Summaries.{count_gets}
use Rattle.kr_workload.proofs.summary.count_gets.Given as goal

abbrev pub invariant-loop-told : goal.invariant-loop-told
invariant-loop-told l =
    (l.gets + count_gets (drop l.told-index l.replies) ≡ count_gets l.replies)
    × (l.gets ≤ l.told-index * 2 ^ 64)
