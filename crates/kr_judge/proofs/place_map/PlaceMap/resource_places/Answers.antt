use Rattle.std.proofs.Common.{None, Some, ◌∙◌}
use Rattle.kr_judge.proofs.Strings.{places_found}
use Rattle.kr_judge.proofs.place_map.PlaceMap.resource_places.Goals as goal

pub returns-in-Some : goal.returns-in-Some
returns-in-Some c = c.as_slice.ensures.value ∙ places_found c.self.inside.groups.entries (λ v. v.items) c.args.resource.now c.args.self.now (Some c.in-Some.places.now) c.in-Some.ensures.value c.self.view_is

pub returns-in-None : goal.returns-in-None
returns-in-None c = places_found c.self.inside.groups.entries (λ v. v.items) c.args.resource.now c.args.self.now None c.in-None.ensures.value c.self.view_is
