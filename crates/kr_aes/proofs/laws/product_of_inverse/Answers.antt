use Rattle.kr_aes.proofs.Powers.{product-inverse}
use Rattle.kr_aes.proofs.laws.product_of_inverse.Goals as goal

pub returns : goal.returns
returns c = product-inverse
