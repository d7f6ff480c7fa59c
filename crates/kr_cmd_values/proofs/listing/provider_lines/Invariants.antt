use Rattle.std.proofs.Common.{◌≡◌, ◌++◌, drop}
use Rattle.kr_cmd_steps.specs.Check.{provider_lines}
use Rattle.kr_cmd_values.proofs.listing.provider_lines.Given as goal

abbrev pub invariant-loop-who : goal.invariant-loop-who
invariant-loop-who l = l.text.items
    ++ provider_lines (drop l.who-index l.providers) ≡ provider_lines l.providers
