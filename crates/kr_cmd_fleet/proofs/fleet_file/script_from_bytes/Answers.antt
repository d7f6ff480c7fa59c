-- `script_from_bytes`: why there is no script.
use Rattle.std.proofs.Common.{Err, subst, sym}
use Rattle.kr_cmd_fleet.specs.inner.Plans.{ReadsBytes}
use Rattle.kr_cmd_fleet.proofs.FleetLoads.{script_refused}
use Rattle.kr_cmd_fleet.proofs.fleet_file.script_from_bytes.Goals as goal

pub returns-in-Err : goal.returns-in-Err
returns-in-Err c = subst (λ s. ReadsBytes c.args.bytes.now (Err s)) (sym c.script_stop.ensures)
    (script_refused c.args.bytes.now c.in-Err.why c.in-Err.ensures)
