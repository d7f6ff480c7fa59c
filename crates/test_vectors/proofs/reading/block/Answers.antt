use Rattle.std.proofs.Common.{◌≡◌, [], ◌∷◌, length, arith}
use Rattle.test_vectors.proofs.Counts.{count}
use Rattle.test_vectors.proofs.reading.block.Goals as goal

pub returns-in_default-2-clause-refused : goal.returns-in_default-2-clause-refused
returns-in_default-2-clause-refused c = λ block size stands.
    let one : length c.args.operands.now ≡ 1 = count c.args.operands.now (block ∷ []) stands in
    omega arith
