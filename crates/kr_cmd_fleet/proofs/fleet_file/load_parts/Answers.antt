-- `load_parts`: one more is gone through, or ends the command.
use Rattle.std.proofs.Common.{ℕ, List, Err, Ok, Result, subst}
use Rattle.std.specs.List.{flat_map}
use Rattle.kr_script.specs.declared.script.Part.{Part}
use Rattle.kr_cmd_messages.specs.declared.refusal.Stop.{Stop}
use Rattle.kr_cmd_fleet.specs.FleetFiles.{file_in}
use Rattle.kr_cmd_fleet.specs.inner.Plans.{GoesThrough, named}
use Rattle.kr_cmd_fleet.proofs.FleetLoads.{ComesTo, through_all, through_more, through_none, through_not}
use Rattle.kr_cmd_fleet.proofs.fleet_file.load_parts.Given.{Over}
use Rattle.kr_cmd_fleet.proofs.fleet_file.load_parts.Goals.{After-load_lines}
use Rattle.kr_cmd_fleet.proofs.fleet_file.load_parts.Goals as goal

abbrev files_of : Part → List (List ℕ)
files_of part = flat_map file_in part.lines.0

module _ (g : Over) (c : After-load_lines g) where
  come : ComesTo files_of c.args.parts.now (named c.args.files.now.0)
      (named c.loop-part.files.0) (g.W.World.told c.args.world.now)
      (g.W.World.told c.loop-part.world) c.loop-part.part-index c.part-item.result
  come = record {
    below = c.loop-part-test.true;
    is = c.part-item.is;
    so_far = c.loop-part.invariant;
  }

  -- the lines that were gone through are the part's
  its_lines : (result : Result (Unit {0}) Stop)
      → GoesThrough (named c.loop-part.files.0) (named c.load_lines.new.files.0)
      (flat_map file_in c.as_slice.result.now) (g.W.World.told c.loop-part.world)
      (g.W.World.told c.load_lines.new.world) result
      → GoesThrough (named c.loop-part.files.0) (named c.load_lines.new.files.0)
      (files_of c.part-item.result) (g.W.World.told c.loop-part.world)
      (g.W.World.told c.load_lines.new.world) result
  its_lines result = subst (λ ls. GoesThrough (named c.loop-part.files.0)
      (named c.load_lines.new.files.0) (flat_map file_in ls) (g.W.World.told c.loop-part.world)
      (g.W.World.told c.load_lines.new.world) result) c.as_slice.ensures

pub loop-part-init : goal.loop-part-init
loop-part-init g c = through_none (named c.args.files.now.0) (g.W.World.told c.args.world.now)

pub returns-in-Err : goal.returns-in-Err
returns-in-Err g c = let here = (goal.at.returns-in-Err g c).After-load_lines in
    through_not (come g here) (named c.load_lines.new.files.0)
    (g.W.World.told c.load_lines.new.world) c.in-Err.stop
    (its_lines g here (Err c.in-Err.stop) c.in-Err.ensures)

pub loop-part-preserved : goal.loop-part-preserved
loop-part-preserved g c = let here = (goal.at.loop-part-preserved g c).After-load_lines in
    through_more (come g here) (named c.load_lines.new.files.0)
    (g.W.World.told c.load_lines.new.world) (its_lines g here (Ok tt) c.in-Ok.ensures)

pub returns : goal.returns
returns g c = through_all files_of c.args.parts.now (named c.args.files.now.0)
    (named c.loop-part.files.0) (g.W.World.told c.args.world.now)
    (g.W.World.told c.loop-part.world) c.loop-part.part-index c.loop-part-test.false
    c.loop-part.invariant
