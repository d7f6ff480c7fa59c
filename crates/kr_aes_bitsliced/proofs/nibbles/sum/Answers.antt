use Rattle.std.proofs.Common.{ℕ, ◌+◌, bit_xor, refl, rules}
use Rattle.kr_aes_bitsliced.specs.inner.Nibbles.{nibble_at}
use Rattle.kr_aes_bitsliced.proofs.Gates.{Gate, ◌⊕◌, In}
use Rattle.kr_aes_bitsliced.proofs.NibbleGates.{AreNibbles, first, number_by_gates, second}
use Rattle.kr_aes_bitsliced.proofs.nibbles.sum.Goals as goal

abbrev gate : ℕ → Gate
gate k = In k ⊕ In (k + 4)

pub returns : goal.returns
unfolding nibble_at
returns c block p small lt =
    let a_are : AreNibbles c.args.a = search rules in
    let b_are : AreNibbles c.args.b = search rules in
    number_by_gates gate (λ x. bit_xor (first x) (second x)) refl
    c.args.a c.args.b block p a_are b_are small lt
