-- `file_programs`: each turn finds the program of the next plugin.
use Rattle.std.proofs.Common.{◌≡◌, [], Ok, refl, subst, sym}
use Rattle.kr_config.specs.Kept.{plugins_in}
use Rattle.kr_provider.proofs.NameOrder.{count_falls}
use Rattle.kr_cmd_steps.specs.Phases.{by_result}
use Rattle.kr_provider.specs.PluginOrder.{plugin_order}
use Rattle.kr_cmd_fleet.specs.FleetFiles.{all_rows}
use Rattle.kr_cmd_steps.specs.Plugins.{settings_programs}
use Rattle.kr_cmd_fleet.specs.inner.Plans.{named}
use Rattle.kr_cmd_fleet.proofs.FleetPrograms.{none_passed_yet}
use Rattle.kr_cmd_steps.proofs.NamedPrograms.{ArePassed, all_passed, linked, names_in, one_linked, unlinked}
use Rattle.kr_cmd_steps.proofs.Works.{lacks}
use Rattle.kr_cmd_fleet.proofs.fleet_file.file_programs.Goals as goal

pub loop-plugin-init : goal.loop-plugin-init
loop-plugin-init c = let rows = all_rows (named c.args.files.now) in (
  subst (λ p. ArePassed rows [] (names_in p)) (sym c.new-programs.ensures)
      (none_passed_yet c.args.files.now),
  subst (λ p. settings_programs c.args.options.now (names_in p) ≡ Ok p) (sym c.new-programs.ensures)
      refl,
  ([], (refl, refl)),
)

pub next_named_plugin-requires-text-after : goal.next_named_plugin-requires-text-after
next_named_plugin-requires-text-after c = λ κs. c.loop-plugin.invariant.2

pub returns-in_default-program-clause-does : goal.returns-in_default-program-clause-does
returns-in_default-program-clause-does c a = unlinked c.args.options.now
    (all_rows (named c.args.files.now)) a c.loop-plugin.programs c.without_program.result
    c.loop-plugin.invariant.0 c.in-Some.ensures c.loop-plugin.invariant.1
    (sym c.in_default-program.ensures) c.without_program.ensures

pub returns-in-Err-clause-does : goal.returns-in-Err-clause-does
returns-in-Err-clause-does c a = lacks (by_result (settings_programs c.args.options.now
    (plugin_order (all_rows (named c.args.files.now))))) a

pub loop-plugin-smaller : goal.loop-plugin-smaller
loop-plugin-smaller c = count_falls c.loop-plugin.after.now c.in-Some.plugin.now
    (plugins_in (all_rows (named c.args.files.now))) c.in-Some.ensures.1 c.in-Some.ensures.0

pub loop-plugin-preserved : goal.loop-plugin-preserved
loop-plugin-preserved c =
    let both = one_linked c.args.options.now (all_rows (named c.args.files.now))
    c.loop-plugin.programs c.add.new.self c.in-Some-program.file.now c.loop-plugin.invariant.0
    c.in-Some.ensures c.loop-plugin.invariant.1 (sym c.in-Some-program.ensures)
    c.in-Ok.ensures.added in (both.0, both.1, c.tell_text.ensures)

pub returns-clause-does : goal.returns-clause-does
returns-clause-does c a = linked c.args.options.now (all_rows (named c.args.files.now)) a
    c.loop-plugin.programs c.loop-plugin.invariant.0 c.in_default.ensures
    c.loop-plugin.invariant.1

pub returns-clause-names : goal.returns-clause-names
returns-clause-names c = sym (all_passed c.loop-plugin.invariant.0 c.in_default.ensures)
