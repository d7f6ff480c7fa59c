use Rattle.std.proofs.Common.{◌≡◌, ◌+◌, length, sym, subst, ap, arith, ◌∙◌}
use Rattle.std.specs.Map.{lookup, remove_entry}
use Rattle.std.specs.BTreeMap.{is_at}
use Rattle.kr_paths.specs.Paths.{path_cmp}
use Rattle.kr_paths.specs.inner.Parts.{IsSpot, joined}
use Rattle.kr_paths.proofs.Joins.{spot_none, spot_kept, gone_length, not_so, so}
use Rattle.kr_paths.proofs.path_map.PathMap.remove.Goals as goal

pub returns-then-not-spot-clause-place : goal.returns-then-not-spot-clause-place
returns-then-not-spot-clause-place c = sym (ap (lookup (is_at (path_cmp c.args.path.now))) (sym c.self.view_is)
    ∙ spot_none c.args.path.now c.self.inside.parts.items c.find-spot.result (subst (λ l. IsSpot c.args.path.now l c.find-spot.result) c.as_slice.ensures.value c.find-spot.ensures) (not_so c.find-spot.result.there c.if-not-spot.true))

pub returns-then-not-spot-clause-removed : goal.returns-then-not-spot-clause-removed
returns-then-not-spot-clause-removed c = sym (ap (remove_entry (is_at (path_cmp c.args.path.now))) (sym c.self.view_is)
    ∙ spot_kept c.args.path.now c.self.inside.parts.items c.find-spot.result (subst (λ l. IsSpot c.args.path.now l c.find-spot.result) c.as_slice.ensures.value c.find-spot.ensures) (not_so c.find-spot.result.there c.if-not-spot.true)
    ∙ c.self.view_is)

pub remove_path-number-requires-clause-spot : goal.remove_path-number-requires-clause-spot
remove_path-number-requires-clause-spot c = subst (λ l. IsSpot c.args.path.now l c.find-spot.result) c.as_slice.ensures.value c.find-spot.ensures

pub invariant_of-self : goal.invariant_of-self
invariant_of-self c =
    let left : length (joined c.remove_path-number.new.parts.items) ≡ length (remove_entry (is_at (path_cmp c.args.path.now)) (joined c.self.inside.parts.items)) = ap length c.remove_path-number.ensures.removed in
    let one : length (remove_entry (is_at (path_cmp c.args.path.now)) (joined c.self.inside.parts.items)) + 1 ≡ length (joined c.self.inside.parts.items) =
    gone_length c.args.path.now c.self.inside.parts.items c.find-spot.result (subst (λ l. IsSpot c.args.path.now l c.find-spot.result) c.as_slice.ensures.value c.find-spot.ensures) (so c.find-spot.result.there c.if-not-spot.false) in
    let all : c.self.inside.count ≡ length (joined c.self.inside.parts.items) = c.self.invariant.1 in
    (c.remove_path-number.ensures.parts, omega (arith, left, one, all))
