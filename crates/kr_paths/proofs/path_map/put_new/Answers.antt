use Rattle.std.proofs.Common.{subst}
use Rattle.kr_paths.specs.inner.Parts.{IsSpot}
use Rattle.kr_paths.proofs.Joins.{still_new}
use Rattle.kr_paths.proofs.path_map.put_new.Goals as goal

pub insert_path-requires-2-clause-spot : goal.insert_path-requires-2-clause-spot
insert_path-requires-2-clause-spot c = subst (λ l. IsSpot c.args.path l c.find-spot.result) c.as_slice.ensures.value (subst (λ p. IsSpot p c.as_slice.result.now c.find-spot.result) c.as_str.ensures c.find-spot.ensures)

pub insert_path-requires-2-clause-new : goal.insert_path-requires-2-clause-new
insert_path-requires-2-clause-new c = still_new c.args.path c.args.parts.now.items c.halve.new.parts.items c.args.spot c.find-spot.result c.requires.spot c.requires.new c.halve.ensures.same
    (subst (λ l. IsSpot c.args.path l c.find-spot.result) c.as_slice.ensures.value (subst (λ p. IsSpot p c.as_slice.result.now c.find-spot.result) c.as_str.ensures c.find-spot.ensures))
