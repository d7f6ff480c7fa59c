use Rattle.std.proofs.Common.{List, length, sym, subst}
use Rattle.kr_judge.specs.declared.pair.Pair.{Pair}
use Rattle.kr_judge.specs.inner.Places.{AreWithin, places_at}
use Rattle.kr_judge.proofs.pair_table.PairTable.find.Goals as goal

pub find_pair-requires : goal.find_pair-requires
find_pair-requires c = subst (λ l. AreWithin l (length c.as_slice.result.now)) (sym c.resource_places.ensures)
    (subst (λ (p : List Pair). AreWithin (places_at c.self.inside.groups c.args.resource.now) (length p)) (sym c.as_slice.ensures.value) (c.self.invariant.0.within c.args.resource.now))
