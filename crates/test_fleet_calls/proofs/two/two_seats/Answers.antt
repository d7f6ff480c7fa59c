-- `two_seats`: both seats are there.
use Rattle.test_fleet_calls.proofs.OpeningLists.{two_there}
use Rattle.test_fleet_calls.proofs.two.two_seats.Goals as goal

pub returns : goal.returns
returns c = two_there c.pop.new.self.0 c.args.made.1.0 c.in-Some.second c.args.made.0
    c.with_first.result c.in-Some.ensures.items c.with_first.ensures
