-- `load_replicas`: one more is gone through, or ends the command.
use Rattle.kr_cmd_fleet.specs.FleetFiles.{file_of_replica}
use Rattle.kr_cmd_fleet.specs.inner.Plans.{named}
use Rattle.kr_cmd_fleet.proofs.FleetLoads.{ComesTo, through_all, through_more, through_none, through_not}
use Rattle.kr_cmd_fleet.proofs.fleet_file.load_replicas.Given.{Over}
use Rattle.kr_cmd_fleet.proofs.fleet_file.load_replicas.Goals.{After-load_replica}
use Rattle.kr_cmd_fleet.proofs.fleet_file.load_replicas.Goals as goal

come : (g : Over) (c : After-load_replica g) → ComesTo file_of_replica c.args.replicas.now
    (named c.args.files.now.0) (named c.loop-replica.files.0) (g.W.World.told c.args.world.now)
    (g.W.World.told c.loop-replica.world) c.loop-replica.replica-index c.replica-item.result
come g c = record {
  below = c.loop-replica-test.true;
  is = c.replica-item.is;
  so_far = c.loop-replica.invariant;
}

pub loop-replica-init : goal.loop-replica-init
loop-replica-init g c = through_none (named c.args.files.now.0) (g.W.World.told c.args.world.now)

pub returns-in-Err : goal.returns-in-Err
returns-in-Err g c = through_not (come g (goal.at.returns-in-Err g c).After-load_replica)
    (named c.load_replica.new.files.0) (g.W.World.told c.load_replica.new.world) c.in-Err.stop
    c.in-Err.ensures

pub loop-replica-preserved : goal.loop-replica-preserved
loop-replica-preserved g c = through_more
    (come g (goal.at.loop-replica-preserved g c).After-load_replica)
    (named c.load_replica.new.files.0) (g.W.World.told c.load_replica.new.world) c.in-Ok.ensures

pub returns : goal.returns
returns g c = through_all file_of_replica c.args.replicas.now (named c.args.files.now.0)
    (named c.loop-replica.files.0) (g.W.World.told c.args.world.now)
    (g.W.World.told c.loop-replica.world) c.loop-replica.replica-index c.loop-replica-test.false
    c.loop-replica.invariant
