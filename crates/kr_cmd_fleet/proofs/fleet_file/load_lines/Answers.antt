-- `load_lines`: one more is gone through, or ends the command.
use Rattle.kr_cmd_fleet.specs.FleetFiles.{file_in}
use Rattle.kr_cmd_fleet.specs.inner.Plans.{named}
use Rattle.kr_cmd_fleet.proofs.FleetLoads.{ComesTo, through_all, through_more, through_none, through_not}
use Rattle.kr_cmd_fleet.proofs.fleet_file.load_lines.Given.{Over}
use Rattle.kr_cmd_fleet.proofs.fleet_file.load_lines.Goals.{After-load_line}
use Rattle.kr_cmd_fleet.proofs.fleet_file.load_lines.Goals as goal

come : (g : Over) (c : After-load_line g) → ComesTo file_in c.args.lines.now
    (named c.args.files.now.0) (named c.loop-line.files.0) (g.W.World.told c.args.world.now)
    (g.W.World.told c.loop-line.world) c.loop-line.line-index c.line-item.result
come g c = record {
  below = c.loop-line-test.true;
  is = c.line-item.is;
  so_far = c.loop-line.invariant;
}

pub loop-line-init : goal.loop-line-init
loop-line-init g c = through_none (named c.args.files.now.0) (g.W.World.told c.args.world.now)

pub returns-in-Err : goal.returns-in-Err
returns-in-Err g c = through_not (come g (goal.at.returns-in-Err g c).After-load_line)
    (named c.load_line.new.files.0) (g.W.World.told c.load_line.new.world) c.in-Err.stop
    c.in-Err.ensures

pub loop-line-preserved : goal.loop-line-preserved
loop-line-preserved g c = through_more
    (come g (goal.at.loop-line-preserved g c).After-load_line)
    (named c.load_line.new.files.0) (g.W.World.told c.load_line.new.world) c.in-Ok.ensures

pub returns : goal.returns
returns g c = through_all file_in c.args.lines.now (named c.args.files.now.0)
    (named c.loop-line.files.0) (g.W.World.told c.args.world.now)
    (g.W.World.told c.loop-line.world) c.loop-line.line-index c.loop-line-test.false
    c.loop-line.invariant
