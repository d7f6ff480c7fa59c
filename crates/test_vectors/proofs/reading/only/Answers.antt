use Rattle.std.proofs.Common.{[], ◌∷◌, inr}
use Rattle.test_vectors.proofs.Counts.{count}
use Rattle.test_vectors.proofs.reading.only.Goals as goal

pub returns-then-operands-ne1-clause-refused : goal.returns-then-operands-ne1-clause-refused
returns-then-operands-ne1-clause-refused c =
    inr (λ bytes most stands. c.if-operands-ne1.true (count c.args.operands.now (bytes ∷ []) stands))
