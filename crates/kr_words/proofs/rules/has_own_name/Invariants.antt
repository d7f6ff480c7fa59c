-- What the loop of `has_own_name` keeps.
use Rattle.std.proofs.Common.{All, take}
use Rattle.kr_words.specs.Rules.{HaveTwoNames}
use Rattle.kr_words.proofs.rules.has_own_name.Given as goal

abbrev pub invariant-loop-earlier : goal.invariant-loop-earlier
invariant-loop-earlier l = All (λ earlier. HaveTwoNames earlier l.later)
    (take l.earlier-index l.before)
