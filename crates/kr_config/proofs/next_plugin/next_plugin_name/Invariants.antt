-- What the loop of `next_plugin_name` keeps.
use Rattle.std.proofs.Common.{take}
use Rattle.std.specs.Option.{option_map}
use Rattle.std.specs.List.{flat_map}
use Rattle.kr_config.proofs.NextLoops.{entry_names}
use Rattle.kr_config.specs.Nexts.{IsNextName}
use Rattle.kr_config.proofs.next_plugin.next_plugin_name.Given as goal

abbrev pub invariant-loop-entry : goal.invariant-loop-entry
invariant-loop-entry l = IsNextName (flat_map entry_names (take l.entry-index l.entries)) l.after
    (option_map (λ name. name.now) l.next)
