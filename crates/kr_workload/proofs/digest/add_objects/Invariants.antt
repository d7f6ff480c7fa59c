-- `add_objects`: what the lines so far got, and what the others did.
use Rattle.std.proofs.Common.{◌≡◌, ◌++◌, drop}
use Rattle.kr_workload.specs.Summaries.{objects_in}
use Rattle.kr_workload.specs.inner.Listing.{lent_pairs}
use Rattle.kr_workload.proofs.digest.add_objects.Given as goal

abbrev pub invariant-loop-asked : goal.invariant-loop-asked
invariant-loop-asked l =
    lent_pairs l.all.items ++ objects_in (drop l.asked-index l.lines) l.rest
    ≡ lent_pairs l.initial.all.items ++ objects_in l.lines l.replies
