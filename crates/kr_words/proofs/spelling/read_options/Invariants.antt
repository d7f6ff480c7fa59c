-- What the loop of `read_options` keeps.
use Rattle.std.proofs.Common.{length}
use Rattle.kr_words.specs.Grammar.{texts}
use Rattle.kr_words.proofs.Spellings.{IsLeft}
use Rattle.kr_words.proofs.spelling.read_options.Given as goal

abbrev pub invariant-loop-rest : goal.invariant-loop-rest
invariant-loop-rest l = IsLeft (texts l.fn.words) l.options.0 (texts l.rest)

abbrev pub decreases-loop-rest : goal.decreases-loop-rest
decreases-loop-rest l = length l.rest
