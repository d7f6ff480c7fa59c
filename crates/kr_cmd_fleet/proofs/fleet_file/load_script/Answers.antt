use Rattle.std.proofs.Common.{subst}
use Rattle.kr_kms.specs.declared.world.WorldCall.TheVariants.{File}
use Rattle.kr_cmd_fleet.specs.inner.Plans.{ReadsBytes}
use Rattle.kr_cmd_fleet.proofs.FleetLoads.{script_read}
use Rattle.kr_cmd_steps.proofs.RunTo.{asked_for}
use Rattle.kr_cmd_fleet.proofs.fleet_file.load_script.Goals as goal

pub returns-clause-asked : goal.returns-clause-asked
returns-clause-asked g c =
    asked_for (g.W.World.told c.args.world.now).asked
    (File c.args.name.now) c.script_from_bytes-script.result c.in-Ok-load.ensures.asked

pub returns-clause-script : goal.returns-clause-script
returns-clause-script g c = script_read (g.W.World.told c.args.world.now)
    (g.W.World.told c.load.new.self) c.args.name.now c.in-Ok-load.file c.script_from_bytes-script.result
    c.in-Ok-load.ensures.file
    (subst (λ bytes. ReadsBytes bytes c.script_from_bytes-script.result) c.as_slice.ensures c.script_from_bytes-script.ensures)
