-- The next name in the files so far.
use Rattle.std.proofs.Common.{take}
use Rattle.std.specs.List.{flat_map}
use Rattle.std.specs.Option.{option_map}
use Rattle.kr_config.specs.Nexts.{IsNextName}
use Rattle.kr_cmd_fleet.proofs.FleetPrograms.{file_names}
use Rattle.kr_cmd_fleet.proofs.fleet_file.next_named_plugin.Given as goal

abbrev pub invariant-loop-file : goal.invariant-loop-file
invariant-loop-file l = IsNextName (flat_map file_names (take l.file-index l.files)) l.after
    (option_map (λ name. name.now) l.next)
