use Rattle.kr_cmd_fleet.proofs.FleetLoads.{fleet_loads, rules_read}
use Rattle.kr_cmd_fleet.proofs.fleet_file.load_fleet.Goals as goal

pub returns-clause-does : goal.returns-clause-does
returns-clause-does g c a = let done = c.load_script in
    fleet_loads done.ensures.files done.ensures.objects a c.args.name.now done.result
    done.ensures.script done.ensures.asked

pub returns-clause-rules : goal.returns-clause-rules
returns-clause-rules g c = let done = c.load_script in
    rules_read (g.W.World.told c.args.world.now) (g.W.World.told done.new.world)
    c.args.name.now done.result done.ensures.script
