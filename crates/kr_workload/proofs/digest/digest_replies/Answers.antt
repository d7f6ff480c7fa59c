-- `digest_replies`: what was got, listed in order.
use Rattle.std.proofs.Common.{◌++◌, map, subst, ◌∙◌}
use Rattle.std.specs.List.{flat_map}
use Rattle.std.specs.List.Sorted.{IsPermutation}
use Rattle.sha2.specs.Sha256.{sha256}
use Rattle.kr_script.specs.Fleets.{worker_of}
use Rattle.kr_workload.specs.Summaries.{got_lines, objects_of}
use Rattle.kr_workload.specs.inner.Listing.{lent_pairs}
use Rattle.kr_workload.proofs.digest.digest_replies.Goals as goal

pub returns : goal.returns
returns c =
    let listing = lent_pairs c.order.new.all.items in record {
      listing = listing;
      same = subst (λ objects. IsPermutation objects listing)
          (c.in_ok-add_all.ensures ∙ (λ i. lent_pairs (c.new-all.ensures.items i)
          ++ objects_of (map worker_of c.args.parts.now) c.args.replies.now))
          c.order.ensures.same;
      sorted = c.order.ensures.sorted;
      digest_is = c.digest_objects.ensures
          ∙ (λ i. sha256 (flat_map got_lines (lent_pairs (c.as_slice.ensures.value i))));
    }
