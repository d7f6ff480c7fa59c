use Rattle.std.proofs.Common.{ℕ, zero, suc, bit_xor, refl, rules}
use Rattle.kr_aes.specs.Field.{polynomial_product, remainder}
use Rattle.kr_aes_bitsliced.specs.inner.Nibbles.{nibble_at, nibble_product}
use Rattle.kr_aes_bitsliced.proofs.Gates.{Gate, ◌⊕◌, In}
use Rattle.kr_aes_bitsliced.proofs.NibbleGates.{AreNibbles, first, number_by_gates, second}
use Rattle.kr_aes_bitsliced.proofs.pairs.squares.Goals as goal

-- of high, In 0 to In 3, and low, In 4 to In 7
abbrev gate : ℕ → Gate
gate zero = In 2 ⊕ In 3 ⊕ (In 4 ⊕ In 6)
gate (suc zero) = In 0 ⊕ In 1 ⊕ In 6
gate (suc (suc zero)) = In 1 ⊕ In 2 ⊕ (In 5 ⊕ In 7)
gate (suc (suc (suc k))) = In 0 ⊕ In 1 ⊕ In 2 ⊕ In 7

pub returns : goal.returns
unfolding nibble_at nibble_product polynomial_product remainder
returns c b p small lt =
    let high_are : AreNibbles c.args.high = search rules in
    let low_are : AreNibbles c.args.low = search rules in
    number_by_gates gate
    (λ x. bit_xor (nibble_product 10 (nibble_product (first x) (first x)))
    (nibble_product (second x) (second x))) refl
    c.args.high c.args.low b p high_are low_are small lt
