use Rattle.std.proofs.Common.{◌+◌, drop, sym, subst, ap, ◌∙◌}
use Rattle.kr_paths.specs.Paths.{AreSorted, first, successor}
use Rattle.kr_paths.specs.inner.Parts.{IsPartFor, joined}
use Rattle.kr_paths.proofs.Joins.{own_at}
use Rattle.kr_paths.proofs.Searches.{part_sorted}
use Rattle.kr_paths.proofs.Nexts.{next_own, next_part}
use Rattle.kr_paths.proofs.path_map.PathMap.successor.Goals as goal

pub first_successor-requires : goal.first_successor-requires
first_successor-requires c =
    let part = subst (λ l. IsPartFor c.args.path.now l c.find_part-at.result) c.as_slice.ensures.value c.find_part-at.ensures in
    subst AreSorted (sym (c.index.ensures ∙ own_at c.args.path.now c.self.inside.parts.items c.find_part-at.result part c.index.result.now)) (part_sorted c.args.path.now c.self.inside.parts.items c.find_part-at.result part c.self.invariant.0)

pub returns-in-Some : goal.returns-in-Some
returns-in-Some c =
    let part = subst (λ l. IsPartFor c.args.path.now l c.find_part-at.result) c.as_slice.ensures.value c.find_part-at.ensures in
    next_own c.args.path.now c.self.inside.parts.items c.find_part-at.result part (c.in-Some.entry.0.now, c.in-Some.entry.1)
    (c.in-Some.ensures ∙ ap (successor c.args.path.now) (c.index.ensures ∙ own_at c.args.path.now c.self.inside.parts.items c.find_part-at.result part c.index.result.now))
    ∙ ap (successor c.args.path.now) c.self.view_is

pub returns-in-None : goal.returns-in-None
returns-in-None c =
    let part = subst (λ l. IsPartFor c.args.path.now l c.find_part-at.result) c.as_slice.ensures.value c.find_part-at.ensures in
    c.following_entry.ensures ∙ ap (λ l. first (joined (drop (c.find_part-at.result + 1) l))) c.as_slice-in-None.ensures.value
    ∙ next_part c.args.path.now c.self.inside.parts.items c.find_part-at.result part
    (c.in-None.ensures ∙ ap (successor c.args.path.now) (c.index.ensures ∙ own_at c.args.path.now c.self.inside.parts.items c.find_part-at.result part c.index.result.now))
    ∙ ap (successor c.args.path.now) c.self.view_is
