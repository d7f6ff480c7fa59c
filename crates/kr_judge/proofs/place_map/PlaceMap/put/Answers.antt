use Rattle.kr_judge.proofs.Strings.{groups_put, group_absent}
use Rattle.kr_judge.proofs.Groups.{put_at}
use Rattle.kr_judge.proofs.place_map.PlaceMap.put.Goals as goal

pub returns-in-Ok-clause-ok : goal.returns-in-Ok-clause-ok
returns-in-Ok-clause-ok c = put_at c.args.self.now _ c.args.resource c.args.places.items
    (groups_put c.self.inside.groups.entries c.insert.new.self.entries (λ v. v.items) c.into_string.result c.args.places c.args.resource c.args.self.now c.in-Ok.ensures.entries c.into_string.ensures c.self.view_is)

pub returns-clause-there : goal.returns-clause-there
returns-clause-there c some = absurd (group_absent c.self.inside.groups.entries (λ v. v.items) c.into_string.result c.args.resource c.args.self.now c.in-Err.ensures.absent c.into_string.ensures c.self.view_is some)
