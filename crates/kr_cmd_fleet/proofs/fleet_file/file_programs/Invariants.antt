-- `file_programs`: the names that were passed have programs, and fewer are still to come.
use Rattle.std.proofs.Common.{◌≡◌, Ok}
use Rattle.std.specs.Str.{IsUtf8}
use Rattle.kr_config.specs.Kept.{plugins_in}
use Rattle.kr_provider.proofs.NameOrder.{count_after}
use Rattle.kr_cmd_fleet.specs.FleetFiles.{all_rows}
use Rattle.kr_cmd_steps.specs.Plugins.{settings_programs}
use Rattle.kr_cmd_fleet.specs.inner.Plans.{named}
use Rattle.kr_cmd_steps.proofs.NamedPrograms.{ArePassed, names_in}
use Rattle.kr_cmd_fleet.proofs.fleet_file.file_programs.Given as goal

abbrev pub invariant-loop-plugin : goal.invariant-loop-plugin
invariant-loop-plugin l = ArePassed (all_rows (named l.files)) l.after (names_in l.programs)
    × (settings_programs l.options (names_in l.programs) ≡ Ok l.programs) × IsUtf8 l.after

abbrev pub decreases-loop-plugin : goal.decreases-loop-plugin
decreases-loop-plugin l = count_after l.after (plugins_in (all_rows (named l.files)))
