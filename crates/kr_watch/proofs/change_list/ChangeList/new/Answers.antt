-- No changes yet.
use Rattle.kr_watch.proofs.KeepSteps.{none_kept}
use Rattle.kr_watch.proofs.change_list.ChangeList.new.Goals as goal

pub invariant_of-result : goal.invariant_of-result
invariant_of-result c = none_kept c.args.keep c.args.revision _ c.requires
    c.in_ok-with_capacity.ensures.items
