-- So many were gone through.
use Rattle.std.proofs.Common.{Ok, take}
use Rattle.std.specs.List.{flat_map}
use Rattle.kr_cmd_fleet.specs.FleetFiles.{file_of_replica}
use Rattle.kr_cmd_fleet.specs.inner.Plans.{GoesThrough, named}
use Rattle.kr_cmd_fleet.proofs.fleet_file.load_replicas.Given as goal

abbrev pub invariant-loop-replica : goal.invariant-loop-replica
invariant-loop-replica g l = GoesThrough (named l.initial.files.0) (named l.files.0)
    (flat_map file_of_replica (take l.replica-index l.replicas)) (g.W.World.told l.initial.world)
    (g.W.World.told l.world) (Ok tt)
