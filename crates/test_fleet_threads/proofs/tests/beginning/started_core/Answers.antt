-- `started_core`: the core begins with these.
use Rattle.kr_rollout.specs.Openings.{opening_by}
use Rattle.test_fleet_threads.proofs.Beginning.{new_core}
use Rattle.test_fleet_threads.proofs.tests.beginning.started_core.Goals as goal

pub returns-in-Ok : goal.returns-in-Ok
returns-in-Ok g c = new_core (opening_by c.args.store c.args.replicas.0 c.args.names.0
    c.args.reloads.now) c.live_count-live.result c.in-Ok.core c.start.result c.in-Ok.is
    c.start.ensures.starts c.requires.names c.requires.replicas c.requires.reloads
    c.live_count-live.ensures
