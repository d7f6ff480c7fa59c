use Rattle.std.proofs.Common.{◌≡◌, ◌∙◌, ◌++◌, ◌∷◌, [], arith, length, ap}
use Rattle.std.proofs.lemmas.List.{length-replicate, replicate_more}
use Rattle.std.proofs.lemmas.List.FromFn.{length-range_with_len}
use Rattle.kr_pages.specs.Pool.{zero_page}
use Rattle.kr_pages.proofs.Pools.{IsPool-new, numbers_more}
use Rattle.kr_pages.proofs.Pages.new.Goals as goal

pub push_reserved-requires : goal.push_reserved-requires
push_reserved-requires c =
    let inv = c.loop-number.invariant in
    omega (arith, ap length inv.zeros, length-replicate c.loop-number.number zero_page, inv.space)

pub push_reserved-requires-in-loop-number : goal.push_reserved-requires-in-loop-number
push_reserved-requires-in-loop-number c =
    let inv = c.loop-number.invariant in
    omega (arith, ap length inv.numbers, length-range_with_len 0 c.loop-number.number, inv.room)

pub loop-number-preserved : goal.loop-number-preserved
loop-number-preserved c =
    let inv = c.loop-number.invariant in record {
      space = c.push_reserved.ensures.capacity ∙ inv.space;
      room = c.push_reserved-in-loop-number.ensures.capacity ∙ inv.room;
      zeros = c.push_reserved.ensures.items ∙ ap (λ xs. xs ++ zero_page ∷ []) inv.zeros ∙ replicate_more c.loop-number.number zero_page;
      numbers = c.push_reserved-in-loop-number.ensures.items ∙ ap (λ xs. xs ++ c.loop-number.number ∷ []) inv.numbers ∙ numbers_more c.loop-number.number;
    }

pub invariant_of-result : goal.invariant_of-result
invariant_of-result c =
    let inv = c.loop-number.invariant in
    let at : c.loop-number.number ≡ c.args.n = omega arith in
    let size : length c.loop-number.pages.items ≡ c.args.n = ap length inv.zeros ∙ length-replicate c.loop-number.number zero_page ∙ at in
    (rw (inv.zeros, inv.numbers, at) (IsPool-new c.args.n), omega (arith, size, c.ranges.n.fits), omega (arith, size, inv.room))

pub returns-clause-pool : goal.returns-clause-pool
returns-clause-pool c = (invariant_of-result c).0
