-- `count_worker_puts`: those so far.
use Rattle.std.proofs.Common.{◌≡◌, ◌≤◌, take}
use Rattle.std.specs.List.{count_by}
use Rattle.kr_workload.specs.Summaries.{is_put_reply}
use Rattle.kr_workload.proofs.summary.count_worker_puts.Given as goal

abbrev pub invariant-loop-reply : goal.invariant-loop-reply
invariant-loop-reply l =
    (l.puts ≡ count_by is_put_reply (take l.reply-index l.replies)) × (l.puts ≤ l.reply-index)
