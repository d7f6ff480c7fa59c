-- `read`: the bench has a link to each plugin that the fleet's configurations may name.
use Rattle.test_fleet_threads.proofs.Reading.{served_there}
use Rattle.test_fleet_threads.proofs.tests.readers.Reader.read.Goals as goal

pub read-found-requires-clause-links : goal.read-found-requires-clause-links
read-found-requires-clause-links g c = served_there g.L.Kms.link c.args.fleet.now
    c.args.self.now.bench c.args.self.now.seat c.in-Some.seat c.seat_caller-acts.result
    c.in-Some.ensures.value c.requires c.seat_caller-acts.ensures
