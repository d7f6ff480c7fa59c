use Rattle.std.proofs.Common.{◌≡◌, [], ◌<◌, ◌≤◌, ◌+◌, ◌/◌, length, get_or, List, sym, subst, ap, arith, ◌∙◌}
use Rattle.std.proofs.lemmas.List.{get_or_default}
use Rattle.kr_paths.specs.inner.Parts.{Entries, AreParts, joined}
use Rattle.kr_paths.proofs.Joins.{halved, halved_joined, halved_parts}
use Rattle.kr_paths.proofs.path_map.halve.Goals as goal

pub returns-clause-same : goal.returns-clause-same
returns-clause-same c =
    let at : c.args.at < length c.reserve.new.self.items = subst (λ (l : List Entries). c.args.at < length l) (sym c.reserve.ensures.items) c.requires.at in
    halved_joined c.reserve.new.self.items c.insert.new.self.items c.args.at (c.len-half.result / 2) c.index_mut.result.now at c.index_mut.ensures.value
    (halved c.reserve.new.self.items c.insert.new.self.items c.args.at (c.len-half.result / 2) c.index_mut.result.now c.split_off.new.self c.in_ok-rest.rest at c.index_mut.ensures.value c.in_ok-rest.ensures.kept c.in_ok-rest.ensures.rest c.in-Ok.ensures.items)
    ∙ ap joined c.reserve.ensures.items

pub returns-clause-parts : goal.returns-clause-parts
returns-clause-parts c =
    let at : c.args.at < length c.reserve.new.self.items = subst (λ (l : List Entries). c.args.at < length l) (sym c.reserve.ensures.items) c.requires.at in
    let own : c.index.result.now ≡ c.index_mut.result.now = c.index.ensures ∙ get_or_default c.reserve.new.self.items c.args.at c.index.result.now c.index_mut.result.now at ∙ sym c.index_mut.ensures.value in
    let long : 2 ≤ length c.index_mut.result.now = subst (λ (l : Entries). 2 ≤ length l) (ap (λ (l : List Entries). get_or l c.args.at []) (sym c.reserve.ensures.items) ∙ get_or_default c.reserve.new.self.items c.args.at [] c.index_mut.result.now at ∙ sym c.index_mut.ensures.value) c.requires.long in
    let half : c.len-half.result ≡ length c.index_mut.result.now = c.len-half.ensures ∙ ap length own in
    halved_parts c.reserve.new.self.items c.insert.new.self.items c.args.at (c.len-half.result / 2) c.index_mut.result.now at c.index_mut.ensures.value
    (halved c.reserve.new.self.items c.insert.new.self.items c.args.at (c.len-half.result / 2) c.index_mut.result.now c.split_off.new.self c.in_ok-rest.rest at c.index_mut.ensures.value c.in_ok-rest.ensures.kept c.in_ok-rest.ensures.rest c.in-Ok.ensures.items)
    (omega (arith, long, half)) (omega (arith, long, half)) (subst AreParts (sym c.reserve.ensures.items) c.requires.parts)
