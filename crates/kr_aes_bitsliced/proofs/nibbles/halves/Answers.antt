-- `halves`: a bit of the sum is the sum of the bits.
use Rattle.std.proofs.Common.{rules}
use Rattle.kr_aes_bitsliced.proofs.PlaneSums.{xor_bit}
use Rattle.kr_aes_bitsliced.proofs.nibbles.halves.Goals as goal

pub returns-clause-sum_low : goal.returns-clause-sum_low
returns-clause-sum_low c block p small lt =
    xor_bit c.args.whole.0 c.args.whole.2 (search rules) (search rules) block p lt

pub returns-clause-sum_high : goal.returns-clause-sum_high
returns-clause-sum_high c block p small lt =
    xor_bit c.args.whole.1 c.args.whole.3 (search rules) (search rules) block p lt
