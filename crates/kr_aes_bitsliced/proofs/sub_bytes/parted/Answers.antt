use Rattle.std.proofs.Common.{ℕ, zero, suc, refl, rules}
use Rattle.kr_aes.specs.Field.{polynomial_product, product, remainder}
use Rattle.kr_aes_bitsliced.specs.inner.Nibbles.{byte_of_pair, embedded}
use Rattle.kr_aes_bitsliced.specs.inner.Planes.{sliced_byte}
use Rattle.kr_aes_bitsliced.proofs.Gates.{Gate, ◌⊕◌, In}
use Rattle.kr_aes_bitsliced.proofs.NibbleGates.{byte_by_gates}
use Rattle.kr_aes_bitsliced.proofs.sub_bytes.parted.Goals as goal

-- sums that several of the eight have
abbrev x8 : Gate
x8 = In 5 ⊕ In 7

abbrev x10 : Gate
x10 = In 5 ⊕ In 6

abbrev x12 : Gate
x12 = x8 ⊕ (In 2 ⊕ In 3)

abbrev x13 : Gate
x13 = In 4 ⊕ x10

abbrev x15 : Gate
x15 = x12 ⊕ x13

abbrev high : ℕ → Gate
high zero = x15
high (suc zero) = x12
high (suc (suc zero)) = In 1 ⊕ x13
high (suc (suc (suc k))) = x8

abbrev low : ℕ → Gate
low zero = x15 ⊕ (In 0 ⊕ In 5)
low (suc zero) = In 7
low (suc (suc zero)) = In 4 ⊕ x8
low (suc (suc (suc k))) = x10 ⊕ (In 1 ⊕ In 3)

pub returns : goal.returns
unfolding sliced_byte byte_of_pair embedded product polynomial_product remainder
returns c b p small lt = byte_by_gates (λ n. n) high low refl c.args.planes b p (search rules) small lt
