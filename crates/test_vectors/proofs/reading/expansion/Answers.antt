use Rattle.std.proofs.Common.{[], ◌∷◌, inr}
use Rattle.test_vectors.proofs.Counts.{count}
use Rattle.test_vectors.proofs.reading.expansion.Goals as goal

pub returns-then-operands-ne2-clause-refused : goal.returns-then-operands-ne2-clause-refused
returns-then-operands-ne2-clause-refused c =
    inr (λ info size most long fits stands. c.if-operands-ne2.true (count c.args.operands.now (info ∷ size ∷ []) stands))
