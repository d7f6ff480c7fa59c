-- `count_worker_gets`: those so far.
use Rattle.std.proofs.Common.{◌≡◌, ◌≤◌, take}
use Rattle.std.specs.List.{count_by}
use Rattle.kr_workload.specs.Summaries.{is_got}
use Rattle.kr_workload.proofs.summary.count_worker_gets.Given as goal

abbrev pub invariant-loop-reply : goal.invariant-loop-reply
invariant-loop-reply l =
    (l.gets ≡ count_by is_got (take l.reply-index l.replies)) × (l.gets ≤ l.reply-index)
