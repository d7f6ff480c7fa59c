-- `load_plan`: one phase behind another.
use Rattle.std.proofs.Common.{◌≡◌, ◌∙◌, List, ℕ, [], Err, Ok, Result, subst}
use Rattle.kr_provider.specs.PluginOrder.{plugin_order}
use Rattle.kr_script.specs.Fleets.{Fleet, fleet_of}
use Rattle.kr_cmd_fleet.specs.FleetFiles.{FleetPlan, NamedRows, all_rows, files_in, fleet_in, all_files, file_programs, planning}
use Rattle.kr_cmd_steps.specs.Steps.{Steps, and_then, give}
use Rattle.kr_cmd_steps.specs.declared.programs.Program.{Program}
use Rattle.kr_cmd_steps.specs.Environment.{Environment, with_world}
use Rattle.kr_cmd_messages.specs.declared.refusal.Stop.{Stop}
use Rattle.kr_cmd_fleet.specs.inner.Plans.{GoesThrough, named}
use Rattle.kr_cmd_steps.specs.inner.ProgramNames.{names_in}
use Rattle.kr_cmd_steps.specs.inner.Phases.{Does}
use Rattle.kr_cmd_fleet.proofs.FleetLoads.{all_read, all_through, not_through, through_from}
use Rattle.kr_cmd_steps.proofs.RunTo.{given, goes_on, stops}
use Rattle.kr_cmd_fleet.proofs.fleet_file.load_plan.Given.{Over}
use Rattle.kr_cmd_fleet.proofs.fleet_file.load_plan.Goals.{In-Ok-load_files}
use Rattle.kr_cmd_fleet.proofs.fleet_file.load_plan.Goals as goal

-- what comes behind each phase
abbrev with_programs : Fleet → List NamedRows → List Program → Steps FleetPlan
with_programs fleet files programs =
    give (record { fleet = fleet; files = files; programs = programs })

abbrev with_files : (options : List (List ℕ × List ℕ)) → Fleet → List NamedRows
    → Steps FleetPlan
with_files options fleet files =
    and_then (file_programs options files) (with_programs fleet files)

abbrev with_fleet : (options : List (List ℕ × List ℕ)) → Fleet → Steps FleetPlan
with_fleet options fleet =
    and_then (files_in [] (all_files fleet)) (with_files options fleet)

pub returns-in-Err-clause-does : goal.returns-in-Err-clause-does
returns-in-Err-clause-does g c a = stops (fleet_in c.args.name.now) (with_fleet c.args.options.now)
    c.in-Err.stop (c.in-Err.ensures.does a)

pub returns-in-Err-load_files-clause-does : goal.returns-in-Err-load_files-clause-does
returns-in-Err-load_files-clause-does g c a =
    let fleet = fleet_of c.in-Ok.script in
    let options = c.args.options.now in
    let stop = c.in-Err-load_files.stop in
    goes_on (fleet_in c.args.name.now) (with_fleet options) fleet (c.in-Ok.ensures.does a)
    (stops (files_in [] (all_files fleet)) (with_files options fleet) stop
    (not_through [] (all_files fleet) stop
    (through_from c.new-files.result.0 (named c.load_files.new.files.0) (all_files fleet)
    (g.W.World.told c.load_fleet.new.world) (g.W.World.told c.load_files.new.world) (Err stop)
    c.new-files.ensures c.in-Err-load_files.ensures) a))

module _ (g : Over) (c : In-Ok-load_files g) where
  abbrev fleet : Fleet
  fleet = fleet_of c.in-Ok.script

  abbrev files : List NamedRows
  files = named c.load_files.new.files.0

  gone_through : GoesThrough [] files (all_files fleet) (g.W.World.told c.load_fleet.new.world)
      (g.W.World.told c.load_files.new.world) (Ok tt)
  gone_through = through_from c.new-files.result.0 files (all_files fleet)
      (g.W.World.told c.load_fleet.new.world) (g.W.World.told c.load_files.new.world) (Ok tt)
      c.new-files.ensures c.in-Ok-load_files.ensures

  -- the programs end it
  by_programs : (a : Environment) (result : Result FleetPlan Stop)
      → Does (with_files c.args.options.now fleet files)
      (with_world (g.W.World.told c.load_files.new.world) a)
      (with_world (g.W.World.told c.load_files.new.world) a) result
      → Does (planning c.args.name.now c.args.options.now)
      (with_world (g.W.World.told c.args.world.now) a)
      (with_world (g.W.World.told c.load_files.new.world) a) result
  by_programs a result d =
      goes_on (fleet_in c.args.name.now) (with_fleet c.args.options.now) fleet
      (c.in-Ok.ensures.does a)
      (goes_on (files_in [] (all_files fleet)) (with_files c.args.options.now fleet) files
      (all_through files (all_files fleet) gone_through a) d)

pub returns-in-Err-file_programs-clause-does : goal.returns-in-Err-file_programs-clause-does
returns-in-Err-file_programs-clause-does g c a =
    let here = (goal.at.returns-in-Err-file_programs-clause-does g c).In-Ok-load_files in
    let options = c.args.options.now in
    let stop = c.in-Err-file_programs.stop in
    let now = with_world (g.W.World.told c.load_files.new.world) a in
    by_programs g here a (Err stop)
    (stops (file_programs options (files g here)) (with_programs (fleet g here) (files g here)) stop
    (subst (λ fs. Does (file_programs options (named fs)) now now (Err stop)) c.as_slice.ensures
    (c.in-Err-file_programs.ensures.does now)))

pub returns-clause-does : goal.returns-clause-does
returns-clause-does g c a =
    let here = (goal.at.returns-clause-does g c).In-Ok-load_files in
    let plan : FleetPlan = record {
      fleet = fleet g here;
      files = files g here;
      programs = c.in-Ok-file_programs.programs;
    } in
    let now = with_world (g.W.World.told c.load_files.new.world) a in
    by_programs g here a (Ok plan)
    (goes_on (file_programs c.args.options.now plan.files) (with_programs plan.fleet plan.files)
    plan.programs
    (subst (λ fs. Does (file_programs c.args.options.now (named fs)) now now (Ok plan.programs))
    c.as_slice.ensures (c.in-Ok-file_programs.ensures.does now)) (given plan now))

pub returns-clause-whole : goal.returns-clause-whole
returns-clause-whole g c =
    let here = (goal.at.returns-clause-whole g c).In-Ok-load_files in
    record {
      rules = c.in-Ok.ensures.rules.0;
      whole = c.in-Ok.ensures.rules.1;
      within = c.in-Ok.ensures.rules.2;
      read = all_read (files g here) (all_files (fleet g here)) (gone_through g here);
      programs = subst (λ fs. names_in c.in-Ok-file_programs.programs
          ≡ plugin_order (all_rows (named fs))) c.as_slice.ensures
          c.in-Ok-file_programs.ensures.names;
    }

pub returns-in-Err-load_files-clause-links : goal.returns-in-Err-load_files-clause-links
returns-in-Err-load_files-clause-links g c =
    c.in-Err-load_files.ensures.0 ∙ c.load_fleet.ensures.links

pub returns-in-Err-file_programs-clause-links : goal.returns-in-Err-file_programs-clause-links
returns-in-Err-file_programs-clause-links g c =
    c.in-Ok-load_files.ensures.0 ∙ c.load_fleet.ensures.links

pub returns-clause-links : goal.returns-clause-links
returns-clause-links g c = c.in-Ok-load_files.ensures.0 ∙ c.load_fleet.ensures.links
