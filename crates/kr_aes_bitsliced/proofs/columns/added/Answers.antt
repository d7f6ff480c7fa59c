-- Each plane is the sum of two.
use Rattle.std.proofs.Common.{refl, rules}
use Rattle.kr_aes_bitsliced.proofs.ByteBits.{each_of_eight}
use Rattle.kr_aes_bitsliced.proofs.PlaneSums.{sums_bytes}
use Rattle.kr_aes_bitsliced.proofs.columns.added.Goals as goal

pub returns : goal.returns
returns c = λ b p hb hp.
    sums_bytes c.args.planes c.args.others _ (search rules) (search rules)
    (each_of_eight _ refl refl refl refl refl refl refl refl) b p hp
