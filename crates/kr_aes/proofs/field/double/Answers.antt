use Rattle.std.proofs.Common.{sym, arith}
use Rattle.kr_aes.proofs.Products.{product-two}
use Rattle.kr_aes.proofs.field.double.Goals as goal

pub returns : goal.returns
returns c = sym (product-two c.args.b (omega arith))
