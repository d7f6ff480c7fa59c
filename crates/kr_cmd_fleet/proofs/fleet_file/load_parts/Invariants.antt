-- So many were gone through.
use Rattle.std.proofs.Common.{Ok, take}
use Rattle.std.specs.List.{flat_map}
use Rattle.kr_script.specs.declared.script.Part.{Part}
use Rattle.kr_cmd_fleet.specs.FleetFiles.{file_in}
use Rattle.kr_cmd_fleet.specs.inner.Plans.{GoesThrough, named}
use Rattle.kr_cmd_fleet.proofs.fleet_file.load_parts.Given as goal

abbrev pub invariant-loop-part : goal.invariant-loop-part
invariant-loop-part g l = GoesThrough (named l.initial.files.0) (named l.files.0)
    (flat_map (λ (part : Part). flat_map file_in part.lines.0) (take l.part-index l.parts))
    (g.W.World.told l.initial.world) (g.W.World.told l.world) (Ok tt)
