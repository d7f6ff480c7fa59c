use Rattle.kr_judge.proofs.Strings.{groups_gone, group_none}
use Rattle.kr_judge.proofs.Groups.{gone_at}
use Rattle.kr_judge.proofs.place_map.PlaceMap.remove.Goals as goal

pub returns : goal.returns
returns c = gone_at c.args.self.now _ c.args.resource.now
    (groups_gone c.self.inside.groups.entries c.remove-places.new.self.entries (λ v. v.items) c.args.resource.now c.args.self.now c.remove-places.ensures.entries c.self.view_is)
    (group_none c.remove-places.new.self.entries (λ v. v.items) c.args.resource.now c.remove-places.ensures.updates.1)
