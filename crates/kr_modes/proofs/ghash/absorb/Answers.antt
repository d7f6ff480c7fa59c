use Rattle.std.proofs.Common.{◌≡◌, ◌*◌, ◌-◌, ◌/◌, ℕ, List, length, take, drop, ◌∙◌, arith}
use Rattle.std.proofs.lemmas.List.{length-drop, take_all}
use Rattle.kr_modes.specs.Blocks.{blocks}
use Rattle.kr_modes.specs.Gcm.{zero_padded}
use Rattle.kr_modes.specs.Ghash.{ghash_blocks}
use Rattle.kr_modes.specs.inner.Tables.{polynomial_of}
use Rattle.kr_modes.proofs.Hashes.{hashed_in_parts}
use Rattle.kr_modes.proofs.ghash.absorb.Goals as goal

pub returns : goal.returns
returns c = λ h is.
    let bytes : List ℕ = c.args.bytes.now in
    let paired : ℕ = length bytes / 32 * 32 in
    let rest : List ℕ = drop paired bytes in
    let all : take (length bytes - paired) rest ≡ rest =
    take_all (length bytes - paired) rest (omega (arith, length-drop paired bytes)) in
    c.absorb_each-2.ensures h is
    ∙ (λ i. ghash_blocks h (c.absorb_pairs-value.ensures h is i) (blocks (zero_padded (all i))))
    ∙ hashed_in_parts h (polynomial_of c.args.start) bytes (length bytes / 32 * 2) paired (omega arith) (omega arith)
