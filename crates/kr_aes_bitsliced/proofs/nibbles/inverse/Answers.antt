use Rattle.std.proofs.Common.{ℕ, zero, suc, refl, rules}
use Rattle.kr_aes.specs.Field.{polynomial_product, remainder}
use Rattle.kr_aes_bitsliced.specs.inner.Nibbles.{nibble_at, nibble_inverse, nibble_product}
use Rattle.kr_aes_bitsliced.proofs.Gates.{Gate, ◌⊕◌, ◌⊗◌, In}
use Rattle.kr_aes_bitsliced.proofs.NibbleGates.{AreNibbles, first, number_by_gates}
use Rattle.kr_aes_bitsliced.proofs.nibbles.inverse.Goals as goal

abbrev gate : ℕ → Gate
gate zero =
    In 0 ⊕ In 1 ⊕ In 2 ⊕ In 0 ⊗ In 2 ⊕ In 1 ⊗ In 2 ⊕ In 0 ⊗ In 1 ⊗ In 2 ⊕ In 3
    ⊕ In 1 ⊗ In 2 ⊗ In 3
gate (suc zero) =
    In 0 ⊗ In 1 ⊕ In 0 ⊗ In 2 ⊕ In 1 ⊗ In 2 ⊕ In 3 ⊕ In 1 ⊗ In 3 ⊕ In 0 ⊗ In 1 ⊗ In 3
gate (suc (suc zero)) =
    In 0 ⊗ In 1 ⊕ In 2 ⊕ In 0 ⊗ In 2 ⊕ In 3 ⊕ In 0 ⊗ In 3 ⊕ In 0 ⊗ In 2 ⊗ In 3
gate (suc (suc (suc k))) =
    In 1 ⊕ In 2 ⊕ In 3 ⊕ In 0 ⊗ In 3 ⊕ In 1 ⊗ In 3 ⊕ In 2 ⊗ In 3 ⊕ In 1 ⊗ In 2 ⊗ In 3

pub returns : goal.returns
unfolding nibble_at nibble_inverse nibble_product polynomial_product remainder
returns c block p small lt =
    let are : AreNibbles c.args.a = search rules in
    number_by_gates gate (λ x. nibble_inverse (first x)) refl
    c.args.a c.args.a block p are are small lt
