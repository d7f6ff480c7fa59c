use Rattle.std.proofs.Common.{sym, subst, true, false, ◌∙◌}
use Rattle.kr_paths.specs.Paths.{AreSorted}
use Rattle.kr_paths.specs.inner.Parts.{IsCut, Stands}
use Rattle.kr_paths.proofs.Joins.{own_at}
use Rattle.kr_paths.proofs.Searches.{part_sorted}
use Rattle.kr_paths.proofs.spot.find.Goals as goal

pub find-requires : goal.find-requires
find-requires c = subst AreSorted (sym (c.index-parts-part.is ∙ own_at c.args.path.now c.args.parts.now c.find_part-part.result c.find_part-part.ensures c.index-parts-part.result))
    (part_sorted c.args.path.now c.args.parts.now c.find_part-part.result c.find_part-part.ensures c.requires.parts)

pub returns-in-Ok : goal.returns-in-Ok
returns-in-Ok c = (
  c.find_part-part.ensures,
  subst (λ l. IsCut c.args.path.now l c.in-Ok.place (Stands true c.args.path.now)) (c.index-parts-part.is ∙ own_at c.args.path.now c.args.parts.now c.find_part-part.result c.find_part-part.ensures c.index-parts-part.result) c.in-Ok.ensures,
)

pub returns-in-Err : goal.returns-in-Err
returns-in-Err c = (
  c.find_part-part.ensures,
  subst (λ l. IsCut c.args.path.now l c.in-Err.place (Stands false c.args.path.now)) (c.index-parts-part.is ∙ own_at c.args.path.now c.args.parts.now c.find_part-part.result c.find_part-part.ensures c.index-parts-part.result) c.in-Err.ensures,
)
