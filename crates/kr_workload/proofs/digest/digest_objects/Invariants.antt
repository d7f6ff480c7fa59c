-- `digest_objects`: what was fed so far.
use Rattle.std.proofs.Common.{take}
use Rattle.std.specs.List.{flat_map}
use Rattle.sha2.specs.Hashers.{Holds256}
use Rattle.kr_workload.specs.Summaries.{got_lines}
use Rattle.kr_workload.specs.inner.Listing.{lent_pairs}
use Rattle.kr_workload.proofs.digest.digest_objects.Given as goal

abbrev pub invariant-loop-object : goal.invariant-loop-object
invariant-loop-object l =
    Holds256 l.hasher (flat_map got_lines (lent_pairs (take l.object-index l.all)))
