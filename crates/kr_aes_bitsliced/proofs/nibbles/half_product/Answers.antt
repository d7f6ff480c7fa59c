use Rattle.std.proofs.Common.{ℕ, ◌+◌, ◌*◌, ◌%◌, List, refl, rules}
use Rattle.kr_aes_bitsliced.specs.declared.nibbles.Nibbles.{Nibbles}
use Rattle.kr_aes_bitsliced.specs.declared.planes.Planes.{Planes}
use Rattle.kr_aes_bitsliced.proofs.Gates.{Gate, ◌⊕◌, ◌⊗◌, In, bit_by_gate}
use Rattle.kr_aes_bitsliced.proofs.NibbleGates.{ArePlanes-pair, pair}
use Rattle.kr_aes_bitsliced.proofs.PlaneSums.{ArePlanes, IsPlane}
use Rattle.kr_aes_bitsliced.proofs.nibbles.half_product.Goals as goal

-- both polynomials, twice
abbrev inputs : List ℕ → List ℕ → List ℕ → List ℕ → Planes
inputs a0 a1 b0 b1 =
    let both : Nibbles = record { 0 = a0; 1 = a1; 2 = b0; 3 = b1 } in
    pair both both

inputs_are : (a0 a1 b0 b1 : List ℕ) → IsPlane a0 → IsPlane a1 → IsPlane b0 → IsPlane b1
    → ArePlanes (inputs a0 a1 b0 b1)
inputs_are a0 a1 b0 b1 h0 h1 i0 i1 =
    let both : Nibbles = record { 0 = a0; 1 = a1; 2 = b0; 3 = b1 } in
    ArePlanes-pair both both
    record { n0 = h0; n1 = h1; n2 = i0; n3 = i1 } record { n0 = h0; n1 = h1; n2 = i0; n3 = i1 }

abbrev low : Gate
low = In 0 ⊗ In 2

abbrev high : Gate
high = In 1 ⊗ In 3

pub returns-clause-low : goal.returns-clause-low
returns-clause-low c block p small lt =
    bit_by_gate low (λ x. x 0 * x 2) refl
    (inputs c.args.a.low c.args.a.high c.args.b.low c.args.b.high) block p
    (inputs_are _ _ _ _ (search rules) (search rules) (search rules) (search rules)) small lt

pub returns-clause-middle : goal.returns-clause-middle
returns-clause-middle c block p small lt =
    bit_by_gate ((In 0 ⊕ In 1) ⊗ (In 2 ⊕ In 3) ⊕ low ⊕ high) (λ x. (x 0 * x 3 + x 1 * x 2) % 2) refl
    (inputs c.args.a.low c.args.a.high c.args.b.low c.args.b.high) block p
    (inputs_are _ _ _ _ (search rules) (search rules) (search rules) (search rules)) small lt

pub returns-clause-high : goal.returns-clause-high
returns-clause-high c block p small lt =
    bit_by_gate high (λ x. x 1 * x 3) refl
    (inputs c.args.a.low c.args.a.high c.args.b.low c.args.b.high) block p
    (inputs_are _ _ _ _ (search rules) (search rules) (search rules) (search rules)) small lt
