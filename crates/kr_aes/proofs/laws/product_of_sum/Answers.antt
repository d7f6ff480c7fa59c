use Rattle.kr_aes.proofs.Linear.{product-xor}
use Rattle.kr_aes.proofs.laws.product_of_sum.Goals as goal

pub returns : goal.returns
returns c = product-xor
