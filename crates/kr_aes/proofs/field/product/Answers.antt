use Rattle.std.proofs.Common.{◌≡◌, ◌<◌, refl, sym, arith, ◌∙◌, ap, inl, inr}
use Rattle.std.specs.Int.{bit_at}
use Rattle.std.proofs.lemmas.Nat.Bits.{shr_and_one, bit_at-lt}
use Rattle.kr_aes.specs.Field.{product, polynomial_product, remainder}
use Rattle.kr_aes.proofs.Linear.{below_two}
use Rattle.kr_aes.proofs.Products.{partial_product, partial_product_next, partial_product_same, partial_product_whole, shifted, shifted_next}
use Rattle.kr_aes.proofs.field.product.Goals as goal
use Rattle.kr_aes.proofs.field.product.Goals.{then-a-i-eq1, else-a-i-eq1}

pub loop-i-init : goal.loop-i-init
unfolding partial_product polynomial_product remainder shifted
loop-i-init c = (refl, refl)

pub loop-i-preserved : goal.loop-i-preserved
loop-i-preserved c =
    let a = c.args.a in
    let b = c.args.b in
    let i = c.loop-i.i in
    let fits : b < 256 = omega arith in
    let below : i < 8 = omega arith in
    let inv = c.loop-i.invariant in (
      elim c.if-a-i-eq1.branch [
        | then-a-i-eq1 w ↦
            let e : bit_at a i ≡ 1 = sym (shr_and_one a i) ∙ w.if-a-i-eq1.true in
            w.sum-is ∙ rw (inv.0, inv.1) (partial_product_next i a b below fits e)
        | else-a-i-eq1 w ↦
            let e : bit_at a i ≡ 0 = elim (below_two (bit_at a i) (bit_at-lt a i)) [
              | inl zero ↦ zero
              | inr one ↦ absurd (w.if-a-i-eq1.false (shr_and_one a i ∙ one))
            ] in
            w.sum-is ∙ inv.0 ∙ partial_product_same i a b e
      ],
      c.double-shifted.ensures ∙ ap (product 2) inv.1 ∙ shifted_next i b,
    )

pub returns : goal.returns
returns c =
    let e : c.loop-i.i ≡ 8 = omega arith in
    c.loop-i.invariant.0 ∙ rw e (partial_product_whole c.args.a c.args.b)
