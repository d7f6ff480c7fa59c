use Rattle.std.proofs.Common.{sym, subst, ap, ◌∙◌}
use Rattle.std.specs.Prelude.{slice_set}
use Rattle.std.specs.List.{insert}
use Rattle.kr_paths.specs.inner.Parts.{AreParts, joined}
use Rattle.kr_paths.proofs.Joins.{put_fresh, fresh_parts, same_set, on_ok, either_way}
use Rattle.kr_paths.proofs.path_map.insert_path.Goals as goal

pub returns-clause-ok : goal.returns-clause-ok
returns-clause-ok c = on_ok c.insert.result
    (λ is. ap (λ l. joined (slice_set c.args.parts.now.items c.args.spot.part l)) (is ∙ ap (λ l. insert l c.args.spot.place (c.args.path, c.args.number)) c.index_mut.ensures.value)
    ∙ put_fresh c.args.path c.args.parts.now.items c.args.spot c.index_mut.result.now c.args.number c.requires.spot c.requires.new)
    c.insert.ensures.ok

pub returns-clause-parts : goal.returns-clause-parts
returns-clause-parts c = either_way (λ l. AreParts (slice_set c.args.parts.now.items c.args.spot.part l)) c.insert.result c.insert.ensures.ok c.insert.ensures.err
    (subst (λ l. AreParts (slice_set c.args.parts.now.items c.args.spot.part l)) (sym (ap (λ l. insert l c.args.spot.place (c.args.path, c.args.number)) c.index_mut.ensures.value))
    (fresh_parts c.args.path c.args.parts.now.items c.args.spot c.index_mut.result.now c.args.number c.requires.spot c.requires.new c.requires.parts))
    (subst AreParts (sym (same_set c.args.path c.args.parts.now.items c.args.spot.part c.requires.spot.0 c.index_mut.result.now c.index_mut.ensures.value)) c.requires.parts)
