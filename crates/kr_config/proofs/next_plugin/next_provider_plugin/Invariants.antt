-- What the loop of `next_provider_plugin` keeps.
use Rattle.std.proofs.Common.{take}
use Rattle.std.specs.Option.{option_map}
use Rattle.kr_config.specs.Providers.{plugins_among}
use Rattle.kr_config.specs.Nexts.{IsNextName}
use Rattle.kr_config.proofs.next_plugin.next_provider_plugin.Given as goal

abbrev pub invariant-loop-who : goal.invariant-loop-who
invariant-loop-who l = IsNextName (plugins_among (take l.who-index l.providers)) l.after
    (option_map (λ name. name.now) l.next)
