use Rattle.kr_judge.proofs.Groups.{AreOthers}
use Rattle.kr_judge.proofs.pair_table.find_pair.Given as goal

abbrev pub invariant-loop-place : goal.invariant-loop-place
invariant-loop-place l = AreOthers l.pairs l.places l.resource l.who l.place-index
