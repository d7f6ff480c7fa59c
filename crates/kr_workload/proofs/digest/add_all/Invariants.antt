-- `add_all`: what the workers so far got, and what the others did.
use Rattle.std.proofs.Common.{◌≡◌, ◌++◌, drop, map}
use Rattle.kr_script.specs.Fleets.{worker_of}
use Rattle.kr_workload.specs.Summaries.{objects_of}
use Rattle.kr_workload.specs.inner.Listing.{lent_pairs}
use Rattle.kr_workload.proofs.digest.add_all.Given as goal

abbrev pub invariant-loop-part : goal.invariant-loop-part
invariant-loop-part l =
    lent_pairs l.all.items ++ objects_of (map worker_of (drop l.part-index l.parts)) l.rest
    ≡ lent_pairs l.initial.all.items ++ objects_of (map worker_of l.parts) l.replies
