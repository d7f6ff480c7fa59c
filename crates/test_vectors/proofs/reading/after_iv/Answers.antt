use Rattle.std.proofs.Common.{[], ◌∷◌, inr}
use Rattle.test_vectors.proofs.Counts.{count}
use Rattle.test_vectors.proofs.reading.after_iv.Goals as goal

pub returns-then-operands-ne2-clause-refused : goal.returns-then-operands-ne2-clause-refused
returns-then-operands-ne2-clause-refused c =
    inr (λ iv plain size most stands. c.if-operands-ne2.true (count c.args.operands.now (iv ∷ plain ∷ []) stands))
