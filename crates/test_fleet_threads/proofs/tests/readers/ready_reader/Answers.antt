-- `ready_reader`: a seat that no one used may read with such a bench.
use Rattle.test_fleet_threads.proofs.Reading.{may_read}
use Rattle.test_fleet_threads.proofs.tests.readers.ready_reader.Goals as goal

pub returns : goal.returns
returns g c = may_read g.L.Kms.link c.args.fleet.now c.in_ok-bench.bench c.args.seat c.requires
    c.in_ok-bench.ensures
