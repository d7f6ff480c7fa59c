use Rattle.std.proofs.Common.{◌≡◌, ◌++◌, drop, map}
use Rattle.kr_cmd_steps.specs.Check.{provider_text}
use Rattle.kr_cmd_values.proofs.Listings.{tail}
use Rattle.kr_cmd_values.proofs.listing.add_providers.Given as goal

abbrev pub invariant-loop-who : goal.invariant-loop-who
invariant-loop-who l = l.text.items
    ++ tail (map provider_text (drop l.who-index l.rest)) ≡ l.initial.text.items
    ++ tail (map provider_text l.rest)
