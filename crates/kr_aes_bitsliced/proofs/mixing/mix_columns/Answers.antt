-- A byte of the outcome, by the calls' clauses from the last one back.
use Rattle.std.proofs.Common.{◌≡◌, ℕ, ◌+◌, ◌%◌, ◌<◌, bit_xor, ap, ◌∙◌, arith}
use Rattle.kr_aes.specs.Field.{product}
use Rattle.kr_aes_bitsliced.specs.inner.Planes.{place_of, sliced_byte}
use Rattle.kr_aes_bitsliced.proofs.ForwardMixing.{mixed_columns_block}
use Rattle.kr_aes_bitsliced.proofs.mixing.mix_columns.Goals as goal

pub returns : goal.returns
returns c = λ b hb.
    let own = λ (row column : ℕ). sliced_byte c.args.planes b (place_of row column) in
    let both : (row column : ℕ) → row < 4 → column < 4
    → sliced_byte c.added-both.result b (place_of row column)
    ≡ bit_xor (own row column) (own ((row + 1) % 4) column) =
    λ row column hr hc.
    c.added-both.ensures b (place_of row column) hb (omega arith)
    ∙ ap (bit_xor (own row column)) (c.up_by_one-below.ensures b row column hb hr hc) in
    mixed_columns_block c.args.planes c.added-2.result b (λ row column hr hc.
    let within : place_of row column < 16 = omega arith in
    let twice : sliced_byte c.doubled.result b (place_of row column)
    ≡ product 2 (bit_xor (own row column) (own ((row + 1) % 4) column)) =
    c.doubled.ensures b (place_of row column) hb within ∙ ap (product 2) (both row column hr hc) in
    let first : sliced_byte c.added.result b (place_of row column)
    ≡ bit_xor (product 2 (bit_xor (own row column) (own ((row + 1) % 4) column)))
    (own ((row + 1) % 4) column) =
    c.added.ensures b (place_of row column) hb within
    ∙ (λ i. bit_xor (twice i) (c.up_by_one-below.ensures b row column hb hr hc i)) in
    let second : sliced_byte c.up_by_two.result b (place_of row column)
    ≡ bit_xor (own ((row + 2) % 4) column) (own (((row + 2) % 4 + 1) % 4) column) =
    c.up_by_two.ensures b row column hb hr hc ∙ both ((row + 2) % 4) column (omega arith) hc in
    c.added-2.ensures b (place_of row column) hb within ∙ (λ i. bit_xor (first i) (second i)))
