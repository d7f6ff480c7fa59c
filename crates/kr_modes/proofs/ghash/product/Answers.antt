use Rattle.std.specs.Prelude.{get_or, []}
use Rattle.std.proofs.Common.{◌≡◌, ◌+◌, ◌*◌, ◌/◌, ◌%◌, ◌^◌, ◌<◌, ℕ, List, bit_xor, slice_index, sym, ap, ◌∙◌, arith}
use Rattle.kr_modes.specs.inner.Tables.{IsTableOf, four_terms, polynomial_of, power, turned}
use Rattle.kr_modes.proofs.Groups.{byte_of_factor, group_more, high_group, low_group, sums_exchanged}
use Rattle.kr_modes.proofs.Numbers.{polynomial_of-xor, polynomial_of_none, turned_group}
use Rattle.kr_modes.proofs.Remainders.{partial_product, partial_product_none, partial_product_whole}
use Rattle.kr_modes.proofs.ghash.product.Goals as goal

-- the entry of a group of four coefficients
entry : (products : List (List ℕ)) (h a i v place : ℕ) → IsTableOf products h → i ≡ 4 * place → place < 32 → v < 16
    → turned v ≡ polynomial_of a / 2 ^ i % 16
    → polynomial_of (slice_index (get_or products place []) v) ≡ four_terms (polynomial_of a / 2 ^ i % 16) (power i h)
entry products h a i v place is from lt small group =
    is.cells place v lt small ∙ (λ k. four_terms (group k) (power (sym from k) h))

pub loop-i-init : goal.loop-i-init
loop-i-init c = λ h is. polynomial_of_none ∙ partial_product_none (polynomial_of c.args.a) h

pub loop-i-preserved : goal.loop-i-preserved
loop-i-preserved c = λ h is.
    let l = c.loop-i in
    let a : ℕ = c.args.a in
    let p : ℕ = polynomial_of a in
    let products : List (List ℕ) = c.args.products.now in
    let byte : ℕ = slice_index c.to_le_bytes-bytes.result l.i in
    let known : byte ≡ a / 2 ^ (8 * l.i) % 256 =
    ap (λ (bytes : List ℕ). slice_index bytes l.i) c.to_le_bytes-bytes.ensures ∙ byte_of_factor a l.i (omega arith) in
    let up : turned (byte / 16) ≡ p / 2 ^ (8 * l.i) % 16 =
    turned_group a (8 * l.i + 4) (8 * l.i) (byte / 16) (omega arith) (λ k lt. omega arith) (high_group a l.i byte known) in
    let down : turned (byte % 16) ≡ p / 2 ^ (8 * l.i + 4) % 16 =
    turned_group a (8 * l.i) (8 * l.i + 4) (byte % 16) (omega arith) (λ k lt. omega arith) (low_group a l.i byte known) in
    let high = entry products h a (8 * l.i) (byte / 16) (2 * l.i) is (omega arith) (omega arith) (omega (arith, known)) up in
    let low = entry products h a (8 * l.i + 4) (byte % 16) (2 * l.i + 1) is (omega arith) (omega arith) (omega arith) down in
    let end : 8 * l.i + 4 + 4 ≡ 8 * (l.i + 1) = omega arith in
    let x : ℕ = slice_index (get_or products (2 * l.i) []) (byte / 16) in
    let y : ℕ = slice_index (get_or products (2 * l.i + 1) []) (byte % 16) in
    ap polynomial_of (sums_exchanged l.high x l.low y)
    ∙ polynomial_of-xor (bit_xor (bit_xor l.high l.low) x) y
    ∙ ap (λ (z : ℕ). bit_xor z (polynomial_of y)) (polynomial_of-xor (bit_xor l.high l.low) x)
    ∙ (λ k. bit_xor (bit_xor (l.invariant h is k) (high k)) (low k))
    ∙ ap (λ (x : ℕ). bit_xor x (four_terms (p / 2 ^ (8 * l.i + 4) % 16) (power (8 * l.i + 4) h))) (group_more (8 * l.i) p h (omega arith) is.fits)
    ∙ group_more (8 * l.i + 4) p h (omega arith) is.fits
    ∙ ap (λ (k : ℕ). partial_product k p h) end

pub returns : goal.returns
returns c = λ h is.
    let all : 8 * c.loop-i.i ≡ 128 = omega arith in
    c.loop-i.invariant h is ∙ ap (λ (k : ℕ). partial_product k (polynomial_of c.args.a) h) all ∙ partial_product_whole (polynomial_of c.args.a) h
