use Rattle.std.proofs.Common.{ℕ, zero, suc, refl, rules}
use Rattle.kr_aes.specs.Cipher.{affine}
use Rattle.kr_aes.specs.Field.{polynomial_product, product, remainder}
use Rattle.kr_aes_bitsliced.specs.inner.Nibbles.{byte_of_pair, embedded}
use Rattle.kr_aes_bitsliced.specs.inner.Planes.{sliced_byte}
use Rattle.kr_aes_bitsliced.proofs.Gates.{Gate, ◌⊕◌, In, Not}
use Rattle.kr_aes_bitsliced.proofs.NibbleGates.{byte_by_gates}
use Rattle.kr_aes_bitsliced.proofs.inverse_box.parted.Goals as goal

-- sums that several of the eight have
abbrev x9 : Gate
x9 = In 1 ⊕ (In 2 ⊕ In 7)

abbrev x12 : Gate
x12 = In 5 ⊕ (In 4 ⊕ x9)

abbrev x13 : Gate
x13 = In 0 ⊕ (In 4 ⊕ In 6)

abbrev high : ℕ → Gate
high zero = Not x9
high (suc zero) = Not (In 5 ⊕ x13)
high (suc (suc zero)) = In 3 ⊕ x12
high (suc (suc (suc k))) = In 6 ⊕ x9

abbrev low : ℕ → Gate
low zero = x12
low (suc zero) = In 1 ⊕ (In 4 ⊕ In 6)
low (suc (suc zero)) = In 3 ⊕ (In 2 ⊕ In 7)
low (suc (suc (suc k))) = In 7 ⊕ x13

pub returns : goal.returns
unfolding sliced_byte byte_of_pair embedded product polynomial_product remainder
returns c b p small lt = byte_by_gates affine high low refl c.args.planes b p (search rules) small lt
