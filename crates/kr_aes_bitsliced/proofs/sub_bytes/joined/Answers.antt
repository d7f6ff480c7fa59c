use Rattle.std.proofs.Common.{ℕ, zero, suc, refl, rules}
use Rattle.kr_aes.specs.Cipher.{affine}
use Rattle.kr_aes.specs.Field.{polynomial_product, product, remainder}
use Rattle.kr_aes_bitsliced.specs.inner.Nibbles.{byte_of_pair, embedded, nibble_at}
use Rattle.kr_aes_bitsliced.proofs.Gates.{Gate, ◌⊕◌, In, Not, byte_by_gates}
use Rattle.kr_aes_bitsliced.proofs.NibbleGates.{ArePlanes-pair, first, pair, second}
use Rattle.kr_aes_bitsliced.proofs.sub_bytes.joined.Goals as goal

-- sums that several of the eight have, of low, In 0 to In 3, and high, In 4 to In 7
abbrev y8 : Gate
y8 = In 4 ⊕ In 7

abbrev y10 : Gate
y10 = In 2 ⊕ (In 0 ⊕ In 6)

abbrev y12 : Gate
y12 = In 1 ⊕ (In 4 ⊕ y10)

abbrev y14 : Gate
y14 = In 0 ⊕ In 7

abbrev y18 : Gate
y18 = In 5 ⊕ y14 ⊕ (In 3 ⊕ y12)

abbrev gate : ℕ → Gate
gate zero = Not (In 5 ⊕ y14)
gate (suc zero) = Not (In 4 ⊕ y10)
gate (suc (suc zero)) = y10 ⊕ y18
gate (suc (suc (suc zero))) = In 0 ⊕ In 6
gate (suc (suc (suc (suc zero)))) = y8 ⊕ y12
gate (suc (suc (suc (suc (suc zero))))) = Not (y12 ⊕ y14)
gate (suc (suc (suc (suc (suc (suc zero)))))) = Not y8
gate (suc (suc (suc (suc (suc (suc (suc k))))))) = y18

pub returns : goal.returns
unfolding nibble_at byte_of_pair embedded product polynomial_product remainder
returns c b p small lt =
    byte_by_gates gate (λ x. affine (byte_of_pair (second x) (first x))) refl
    (pair c.args.low c.args.high) b p
    (ArePlanes-pair c.args.low c.args.high (search rules) (search rules)) small lt
