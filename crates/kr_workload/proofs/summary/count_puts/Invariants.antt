-- `count_puts`: those of the workers so far, and of the others.
use Rattle.std.proofs.Common.{◌≡◌, ◌+◌, ◌*◌, ◌≤◌, ◌^◌, drop}
use Rattle.kr_workload.specs.Summaries.{count_puts}
use Rattle.kr_workload.proofs.summary.count_puts.Given as goal

abbrev pub invariant-loop-told : goal.invariant-loop-told
invariant-loop-told l =
    (l.puts + count_puts (drop l.told-index l.replies) ≡ count_puts l.replies)
    × (l.puts ≤ l.told-index * 2 ^ 64)
