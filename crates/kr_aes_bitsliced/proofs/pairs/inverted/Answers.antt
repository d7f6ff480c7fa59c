use Rattle.std.proofs.Common.{◌≡◌, ℕ, ◌<◌, bit_xor, ap, ◌∙◌}
use Rattle.kr_aes_bitsliced.specs.inner.Nibbles.{byte_of_pair, nibble_at, nibble_inverse, nibble_product}
use Rattle.kr_aes_bitsliced.proofs.InverseByPairs.{inverse_norm, inverse_pair-inverse, nibble_at-lt}
use Rattle.kr_aes_bitsliced.proofs.pairs.inverted.Goals as goal

pub returns : goal.returns
returns c b p small lt =
    let h : ℕ = nibble_at c.args.high b p in
    let l : ℕ = nibble_at c.args.low b p in
    let h_lt : h < 16 = nibble_at-lt c.args.high b p in
    let l_lt : l < 16 = nibble_at-lt c.args.low b p in
    let squares : nibble_at c.squares.result b p
    ≡ bit_xor (nibble_product 10 (nibble_product h h)) (nibble_product l l) =
    c.squares.ensures b p small lt in
    let product : nibble_at c.product.result b p ≡ nibble_product h l =
    c.product.ensures b p small lt in
    let norm : nibble_at c.sum-norm.result b p ≡ _ =
    c.sum-norm.ensures b p small lt ∙ (λ m. bit_xor (squares m) (product m)) in
    let inverse : nibble_at c.inverse-inverse.result b p ≡ inverse_norm h l =
    c.inverse-inverse.ensures b p small lt ∙ ap nibble_inverse norm in
    let sum : nibble_at c.sum.result b p ≡ bit_xor h l = c.sum.ensures b p small lt in
    let high : nibble_at c.product-new_high.result b p ≡ nibble_product h (inverse_norm h l) =
    c.product-new_high.ensures b p small lt ∙ ap (nibble_product h) inverse in
    let low : nibble_at c.product-new_low.result b p
    ≡ nibble_product (bit_xor h l) (inverse_norm h l) =
    c.product-new_low.ensures b p small lt ∙ (λ m. nibble_product (sum m) (inverse m)) in
    (λ m. byte_of_pair (high m) (low m)) ∙ inverse_pair-inverse h l h_lt l_lt
