-- `started`: the core begins with these.
use Rattle.kr_rollout.specs.Openings.{opening_by}
use Rattle.test_fleet_threads.proofs.Bare.{new_core}
use Rattle.test_fleet_threads.proofs.tests.core_in_memory.started.Goals as goal

pub returns-in-Ok : goal.returns-in-Ok
returns-in-Ok c = new_core (opening_by c.args.store c.args.replicas.0 c.new.result.0
    c.args.reloads.now) c.args.room c.in-Ok.core c.start.result c.in-Ok.is c.start.ensures.starts
    c.requires.one c.requires.two.0
