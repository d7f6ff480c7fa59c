use Rattle.std.proofs.Common.{◌≡◌, ◌<◌, ◌+◌, ◌*◌, ℕ, List, length, bit_xor, refl, sym, ap, ◌∙◌, arith}
use Rattle.std.specs.Fork.{slice_chunk}
use Rattle.std.specs.Int.{div_ceil}
use Rattle.kr_modes.specs.Gcm.{zero_padded}
use Rattle.kr_modes.specs.Ghash.{polynomial, product}
use Rattle.kr_modes.specs.inner.Tables.{polynomial_of}
use Rattle.kr_modes.proofs.Hashes.{hashed_all, hashed_from, hashed_more, hashed_none}
use Rattle.kr_modes.proofs.Numbers.{polynomial_of-xor}
use Rattle.kr_modes.proofs.Paddings.{chunk_of_zero_padded, filled_whole}
use Rattle.kr_modes.proofs.Remainders.{product_of_xor}
use Rattle.kr_modes.proofs.Squares.{first_term, product_twice}
use Rattle.kr_modes.proofs.ghash.absorb_pairs.Goals as goal

pub loop-pair-init : goal.loop-pair-init
loop-pair-init c = λ h is. hashed_none h (polynomial_of c.args.start) c.args.bytes.now

pub loop-pair-preserved : goal.loop-pair-preserved
unfolding polynomial_of
loop-pair-preserved c = λ h is.
    let l = c.loop-pair in
    let bytes : List ℕ = c.args.bytes.now in
    let i : ℕ = 2 * l.pair in
    let lt : i < div_ceil (length bytes) 16 = omega arith in
    let less : i + 1 < div_ceil (length bytes) 16 = omega arith in
    let block : c.whole_block-first.result ≡ slice_chunk (zero_padded bytes) 16 i =
    c.whole_block-first.ensures ∙ sym (filled_whole bytes i 0 (omega arith)) ∙ sym (chunk_of_zero_padded bytes i lt) in
    let other : c.whole_block-second.result ≡ slice_chunk (zero_padded bytes) 16 (i + 1) =
    c.whole_block-second.ensures ∙ sym (filled_whole bytes (i + 1) 0 (omega arith)) ∙ sym (chunk_of_zero_padded bytes (i + 1) less) in
    let v : ℕ = polynomial_of l.value in
    let x : ℕ = polynomial (slice_chunk (zero_padded bytes) 16 i) in
    let y : ℕ = polynomial (slice_chunk (zero_padded bytes) 16 (i + 1)) in
    let square = ap polynomial c.to_le_bytes-square.ensures ∙ c.product.ensures h is ∙ ap (λ (p : ℕ). product p h) (is.cells 0 8 (omega arith) (omega arith) ∙ first_term h) in
    let sum = polynomial_of-xor l.value c.number.result ∙ ap (bit_xor v) (c.number.ensures ∙ ap polynomial block) in
    let twice = c.product-twice.ensures (polynomial c.to_le_bytes-square.result) c.fill.ensures
    ∙ (λ k. product (sum k) (square k)) ∙ sym (product_twice (bit_xor v x) h is.fits) in
    let once = c.product-once.ensures h is ∙ ap (λ (p : ℕ). product p h) (c.number-in-loop-pair.ensures ∙ ap polynomial other) in
    let both = polynomial_of-xor c.product-twice.result c.product-once.result ∙ (λ k. bit_xor (twice k) (once k))
    ∙ sym (product_of_xor (product (bit_xor v x) h) y h) in
    let end : i + 1 + 1 ≡ 2 * (l.pair + 1) = omega arith in
    ap (hashed_from h (polynomial_of (bit_xor c.product-twice.result c.product-once.result)) bytes) (sym end)
    ∙ hashed_more h (product (bit_xor v x) h) (polynomial_of (bit_xor c.product-twice.result c.product-once.result)) bytes (i + 1) less both
    ∙ hashed_more h v (product (bit_xor v x) h) bytes i lt refl
    ∙ l.invariant h is

pub returns : goal.returns
returns c = λ h is.
    let l = c.loop-pair in
    let at : 2 * l.pair ≡ div_ceil (length c.args.bytes.now) 16 = omega arith in
    sym (hashed_all h (polynomial_of l.value) c.args.bytes.now (2 * l.pair) at) ∙ l.invariant h is
