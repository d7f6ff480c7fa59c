use Rattle.std.proofs.Common.{◌≡◌, ◌++◌, drop, map}
use Rattle.kr_cmd_steps.specs.Check.{spelled_pattern_text}
use Rattle.kr_cmd_values.proofs.Listings.{tail}
use Rattle.kr_cmd_values.proofs.listing.add_patterns.Given as goal

abbrev pub invariant-loop-pattern : goal.invariant-loop-pattern
invariant-loop-pattern l = l.text.items
    ++ tail (map spelled_pattern_text (drop l.pattern-index l.rest)) ≡ l.initial.text.items
    ++ tail (map spelled_pattern_text l.rest)
