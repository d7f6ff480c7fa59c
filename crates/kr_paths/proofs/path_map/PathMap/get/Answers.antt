use Rattle.std.proofs.Common.{[], Some, get_or, sym, subst, ap, ◌∙◌}
use Rattle.std.specs.Map.{lookup}
use Rattle.std.specs.BTreeMap.{is_at}
use Rattle.kr_paths.specs.Paths.{path_cmp}
use Rattle.kr_paths.specs.inner.Parts.{Entries, IsSpot}
use Rattle.kr_paths.proofs.Joins.{spot_found, spot_none, not_so, so}
use Rattle.kr_paths.proofs.path_map.PathMap.get.Goals as goal

pub returns-then-not-spot : goal.returns-then-not-spot
returns-then-not-spot c = sym (ap (lookup (is_at (path_cmp c.args.path.now))) (sym c.self.view_is)
    ∙ spot_none c.args.path.now c.self.inside.parts.items c.find-spot.result (subst (λ l. IsSpot c.args.path.now l c.find-spot.result) c.as_slice.ensures.value c.find-spot.ensures) (not_so c.find-spot.result.there c.if-not-spot.true))

pub returns : goal.returns
returns c = ap Some (c.number.ensures ∙ ap (λ (l : Entries). (get_or l c.find-spot.result.place ([], 0)).1) c.index.ensures)
    ∙ spot_found c.args.path.now c.self.inside.parts.items c.find-spot.result c.index.result.now (subst (λ l. IsSpot c.args.path.now l c.find-spot.result) c.as_slice.ensures.value c.find-spot.ensures) (so c.find-spot.result.there c.if-not-spot.false)
    ∙ ap (lookup (is_at (path_cmp c.args.path.now))) c.self.view_is
