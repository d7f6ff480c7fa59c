use Rattle.std.proofs.Common.{◌≡◌}
use Rattle.kr_aes.proofs.Products.{partial_product, shifted}
use Rattle.kr_aes.proofs.field.product.Given as goal

abbrev pub invariant-loop-i : goal.invariant-loop-i
invariant-loop-i l = (l.sum ≡ partial_product l.i l.a l.b) × (l.shifted ≡ shifted l.i l.b)
