use Rattle.std.proofs.Common.{◌≡◌, ◌*◌, ℕ, bit_xor}
use Rattle.kr_modes.specs.inner.Tables.{IsTableOf, polynomial_of}
use Rattle.kr_modes.proofs.Remainders.{partial_product}
use Rattle.kr_modes.proofs.ghash.product.Given as goal

abbrev pub invariant-loop-i : goal.invariant-loop-i
invariant-loop-i l = (subkey : ℕ) → IsTableOf l.products subkey → polynomial_of (bit_xor l.high l.low) ≡ partial_product (8 * l.i) (polynomial_of l.a) subkey
