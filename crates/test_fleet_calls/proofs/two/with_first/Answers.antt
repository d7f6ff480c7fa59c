-- `with_first`: the last seat was there.
use Rattle.std.proofs.Common.{refl}
use Rattle.test_fleet_calls.proofs.OpeningLists.{last_there}
use Rattle.test_fleet_calls.proofs.two.with_first.Goals as goal

pub returns : goal.returns
returns c = (
  refl,
  last_there c.pop.new.self.0 c.args.seats.0 c.in-Some.first c.in-Some.ensures.items,
  refl,
)
