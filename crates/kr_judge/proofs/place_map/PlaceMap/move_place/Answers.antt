use Rattle.std.proofs.Common.{not, ◌==◌, sym, ap, subst, ◌∙◌}
use Rattle.std.specs.List.{filter}
use Rattle.kr_judge.specs.inner.Places.{AreLeftAt}
use Rattle.kr_judge.proofs.Groups.{taken_to}
use Rattle.kr_judge.proofs.place_map.PlaceMap.move_place.Goals as goal

pub returns-clause-ok : goal.returns-clause-ok
returns-clause-ok c = taken_to c.args.self.now c.add.new.self c.leave.new.self c.args.place c.args.from.now c.args.to.now c.in_ok-rest.rest.items
    (c.in_ok-rest.ensures ∙ ap (filter (λ n. not (n == c.args.place))) c.resource_places.ensures) (sym c.eq.ensures ∙ c.if-eq.false) c.in_ok-add.ensures.ok
    (subst (λ r. AreLeftAt r c.in_ok-rest.rest.items c.add.new.self c.leave.new.self) c.in_ok-key.ensures c.leave.ensures)
