-- What the loop of `have_own_names` keeps.
use Rattle.std.proofs.Common.{AllPairs, take}
use Rattle.kr_words.specs.Rules.{HaveTwoNames}
use Rattle.kr_words.proofs.rules.have_own_names.Given as goal

abbrev pub invariant-loop-i : goal.invariant-loop-i
invariant-loop-i l = AllPairs HaveTwoNames (take l.i l.options)
