use Rattle.std.proofs.Common.{sym, subst}
use Rattle.kr_base.specs.Pairs.{IsSortedByKey}
use Rattle.kr_base.proofs.SortedPairs.{sorted_nil}
use Rattle.kr_base.proofs.annotations.Annotations.new.Goals as goal

pub invariant_of-result : goal.invariant_of-result
invariant_of-result c = subst IsSortedByKey (sym c.new.ensures.items) sorted_nil
