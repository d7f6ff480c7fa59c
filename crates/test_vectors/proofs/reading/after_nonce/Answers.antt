use Rattle.std.proofs.Common.{[], ◌∷◌, inr}
use Rattle.test_vectors.proofs.Counts.{count}
use Rattle.test_vectors.proofs.reading.after_nonce.Goals as goal

pub returns-then-operands-ne3-clause-refused : goal.returns-then-operands-ne3-clause-refused
returns-then-operands-ne3-clause-refused c =
    inr (λ nonce aad plain size most fits stands. c.if-operands-ne3.true (count c.args.operands.now (nonce ∷ aad ∷ plain ∷ []) stands))
