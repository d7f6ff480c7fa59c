use Rattle.kr_judge.specs.inner.Views.{generations_of}
use Rattle.kr_judge.proofs.Searches.{AreSearched}
use Rattle.kr_judge.proofs.holding.find_current.Given as goal

abbrev pub invariant-loop-number : goal.invariant-loop-number
invariant-loop-number l = AreSearched l.replica (generations_of l.generations) l.number-index
