use Rattle.kr_modes.proofs.Remainders.{product-xor, product_of_xor}
use Rattle.kr_modes.proofs.laws.product_of_sums.Goals as goal

pub returns : goal.returns
returns c = λ a b c. (product-xor a b c, product_of_xor a b c)
