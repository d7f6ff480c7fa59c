use Rattle.std.proofs.Common.{◌≡◌, ◌<◌, ◌+◌, ◌/◌, ℕ, List, length, bit_xor, sym, ap, ◌∙◌, arith}
use Rattle.std.specs.Fork.{slice_chunk}
use Rattle.std.specs.Int.{div_ceil}
use Rattle.kr_modes.specs.Gcm.{zero_padded}
use Rattle.kr_modes.specs.Ghash.{polynomial, product}
use Rattle.kr_modes.specs.inner.Tables.{polynomial_of}
use Rattle.kr_modes.proofs.Hashes.{hashed_all, hashed_more, hashed_none}
use Rattle.kr_modes.proofs.Numbers.{polynomial_of-xor}
use Rattle.kr_modes.proofs.Paddings.{chunk_of_zero_padded, filled_whole}
use Rattle.kr_modes.proofs.ghash.absorb_each.Goals as goal

pub loop-index-init : goal.loop-index-init
loop-index-init c = λ h is. hashed_none h (polynomial_of c.args.start) c.args.bytes.now

pub loop-index-preserved : goal.loop-index-preserved
loop-index-preserved c = λ h is.
    let l = c.loop-index in
    let bytes : List ℕ = c.args.bytes.now in
    let lt : l.index < div_ceil (length bytes) 16 = omega arith in
    let block : c.whole_block-block.result ≡ slice_chunk (zero_padded bytes) 16 l.index =
    c.whole_block-block.ensures ∙ sym (filled_whole bytes l.index 0 (omega arith)) ∙ sym (chunk_of_zero_padded bytes l.index lt) in
    let added = ap (λ (p : ℕ). product p h) (polynomial_of-xor l.value c.number.result)
    ∙ ap (λ (p : ℕ). product (bit_xor (polynomial_of l.value) p) h) (c.number.ensures ∙ ap polynomial block) in
    hashed_more h (polynomial_of l.value) (polynomial_of c.product-value.result) bytes l.index lt (c.product-value.ensures h is ∙ added) ∙ l.invariant h is

pub returns-then-bytes-eq0 : goal.returns-then-bytes-eq0
returns-then-bytes-eq0 c = λ h is.
    let l = c.loop-index in
    let at : l.index ≡ div_ceil (length c.args.bytes.now) 16 = omega arith in
    sym (hashed_all h (polynomial_of l.value) c.args.bytes.now l.index at) ∙ l.invariant h is

pub returns : goal.returns
returns c = λ h is.
    let l = c.loop-index in
    let bytes : List ℕ = c.args.bytes.now in
    let whole : ℕ = length bytes / 16 in
    let at : l.index ≡ whole = omega arith in
    let lt : l.index < div_ceil (length bytes) 16 = omega arith in
    let block : c.filled_block-block.result ≡ slice_chunk (zero_padded bytes) 16 l.index =
    rw at (c.filled_block-block.ensures ∙ sym (chunk_of_zero_padded bytes whole (omega arith))) in
    let added = ap (λ (p : ℕ). product p h) (polynomial_of-xor l.value c.number-2.result)
    ∙ ap (λ (p : ℕ). product (bit_xor (polynomial_of l.value) p) h) (c.number-2.ensures ∙ ap polynomial block) in
    let step = hashed_more h (polynomial_of l.value) (polynomial_of c.product.result) bytes l.index lt (c.product.ensures h is ∙ added) in
    sym (hashed_all h (polynomial_of c.product.result) bytes (l.index + 1) (omega arith)) ∙ step ∙ l.invariant h is
