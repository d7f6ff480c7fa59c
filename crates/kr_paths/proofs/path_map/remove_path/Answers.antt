use Rattle.std.proofs.Common.{◌≡◌, [], length, get_or, Some, sym, subst, ap, arith, ◌∙◌}
use Rattle.std.specs.Prelude.{slice_set}
use Rattle.std.specs.List.{remove}
use Rattle.std.proofs.lemmas.List.{get_or-set_same}
use Rattle.kr_paths.specs.inner.Parts.{Entries, AreParts, joined}
use Rattle.kr_paths.proofs.Joins.{own_within, spot_found, take_there, taken_parts, out_joined, out_parts}
use Rattle.kr_paths.proofs.path_map.remove_path.Goals as goal

pub returns-then-len-eq0-clause-number : goal.returns-then-len-eq0-clause-number
returns-then-len-eq0-clause-number c = ap Some (c.remove-number.ensures.number ∙ ap (λ (l : Entries). (get_or l c.args.spot.place ([], 0)).1) c.index_mut.ensures.value)
    ∙ spot_found c.args.path.now c.args.parts.now.items c.args.spot c.index_mut.result.now c.requires.spot c.requires.there

pub returns-else-len-eq0-clause-number : goal.returns-else-len-eq0-clause-number
returns-else-len-eq0-clause-number c = ap Some (c.remove-number.ensures.number ∙ ap (λ (l : Entries). (get_or l c.args.spot.place ([], 0)).1) c.index_mut.ensures.value)
    ∙ spot_found c.args.path.now c.args.parts.now.items c.args.spot c.index_mut.result.now c.requires.spot c.requires.there

pub returns-else-len-eq0-clause-removed : goal.returns-else-len-eq0-clause-removed
returns-else-len-eq0-clause-removed c =
    ap (λ l. joined (slice_set c.args.parts.now.items c.args.spot.part l)) (c.remove-number.ensures.removed ∙ ap (λ l. remove l c.args.spot.place) c.index_mut.ensures.value)
    ∙ take_there c.args.path.now c.args.parts.now.items c.args.spot c.index_mut.result.now c.requires.spot c.requires.there

pub returns-else-len-eq0-clause-parts : goal.returns-else-len-eq0-clause-parts
returns-else-len-eq0-clause-parts c =
    let taken : c.remove-number.new.self ≡ remove (get_or c.args.parts.now.items c.args.spot.part c.index_mut.result.now) c.args.spot.place = c.remove-number.ensures.removed ∙ ap (λ l. remove l c.args.spot.place) c.index_mut.ensures.value in
    let shown : c.index.result.now ≡ c.remove-number.new.self = c.index.ensures ∙ get_or-set_same c.args.parts.now.items c.args.spot.part c.remove-number.new.self c.index.result.now (own_within c.args.path.now c.args.parts.now.items c.args.spot.part c.requires.spot.0) in
    let long : length c.index.result.now ≡ length (remove (get_or c.args.parts.now.items c.args.spot.part c.index_mut.result.now) c.args.spot.place) = ap length (shown ∙ taken) in
    subst (λ l. AreParts (slice_set c.args.parts.now.items c.args.spot.part l)) (sym taken)
    (taken_parts c.args.path.now c.args.parts.now.items c.args.spot c.index_mut.result.now c.requires.spot c.requires.there c.requires.parts (omega (arith, c.len.ensures, c.if-len-eq0.false, long)))

pub returns-then-len-eq0-clause-removed : goal.returns-then-len-eq0-clause-removed
returns-then-len-eq0-clause-removed c =
    let shown : c.index.result.now ≡ c.remove-number.new.self = c.index.ensures ∙ get_or-set_same c.args.parts.now.items c.args.spot.part c.remove-number.new.self c.index.result.now (own_within c.args.path.now c.args.parts.now.items c.args.spot.part c.requires.spot.0) in
    let none : length c.remove-number.new.self ≡ 0 = sym (ap length shown) ∙ sym c.len.ensures ∙ c.if-len-eq0.true in
    ap joined c.remove.ensures.items ∙ out_joined c.args.path.now c.args.parts.now.items c.args.spot c.remove-number.new.self c.requires.spot none
    ∙ ap (λ l. joined (slice_set c.args.parts.now.items c.args.spot.part l)) (c.remove-number.ensures.removed ∙ ap (λ l. remove l c.args.spot.place) c.index_mut.ensures.value)
    ∙ take_there c.args.path.now c.args.parts.now.items c.args.spot c.index_mut.result.now c.requires.spot c.requires.there

pub returns-then-len-eq0-clause-parts : goal.returns-then-len-eq0-clause-parts
returns-then-len-eq0-clause-parts c =
    let taken : c.remove-number.new.self ≡ remove (get_or c.args.parts.now.items c.args.spot.part c.index_mut.result.now) c.args.spot.place = c.remove-number.ensures.removed ∙ ap (λ l. remove l c.args.spot.place) c.index_mut.ensures.value in
    let shown : c.index.result.now ≡ c.remove-number.new.self = c.index.ensures ∙ get_or-set_same c.args.parts.now.items c.args.spot.part c.remove-number.new.self c.index.result.now (own_within c.args.path.now c.args.parts.now.items c.args.spot.part c.requires.spot.0) in
    let none : length (remove (get_or c.args.parts.now.items c.args.spot.part c.index_mut.result.now) c.args.spot.place) ≡ 0 = sym (ap length (shown ∙ taken)) ∙ sym c.len.ensures ∙ c.if-len-eq0.true in
    subst AreParts (sym (c.remove.ensures.items ∙ ap (λ l. remove (slice_set c.args.parts.now.items c.args.spot.part l) c.args.spot.part) taken))
    (out_parts c.args.path.now c.args.parts.now.items c.args.spot c.index_mut.result.now c.requires.spot c.requires.there c.requires.parts none)
