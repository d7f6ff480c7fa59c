use Rattle.std.proofs.Common.{arith}
use Rattle.std.proofs.lemmas.List.{length-set}
use Rattle.kr_pages.specs.Pool.{zero_page}
use Rattle.kr_pages.proofs.Pools.{free-lt, IsPool-with_free, is_free-with_free}
use Rattle.kr_pages.proofs.Pages.give.Goals as goal

pub push_reserved-requires : goal.push_reserved-requires
push_reserved-requires c =
    let below = rw (← c.self.view_is, ← c.page.view_is) at c.requires.below in
    let out = rw (← c.self.view_is, ← c.page.view_is) at c.requires.out in
    let less = free-lt _ c.page.inside.number c.self.invariant.0 below out in
    omega (arith, c.self.invariant.2, less)

pub invariant_of-self : goal.invariant_of-self
invariant_of-self c =
    let below = rw (← c.self.view_is, ← c.page.view_is) at c.requires.below in
    let out = rw (← c.self.view_is, ← c.page.view_is) at c.requires.out in
    let size = length-set c.self.inside.pages.items c.page.inside.number zero_page in
    rw c.push_reserved.ensures.items (
      IsPool-with_free _ c.page.inside.number c.self.invariant.0 below out,
      omega (arith, size, c.self.invariant.1),
      omega (arith, size, c.self.invariant.2, c.push_reserved.ensures.capacity),
    )

pub returns-clause-pool : goal.returns-clause-pool
returns-clause-pool c = (invariant_of-self c).0

pub returns-clause-others : goal.returns-clause-others
returns-clause-others c = λ k other.
    let apart = rw (← c.page.view_is) at other in
    rw (c.push_reserved.ensures.items, ← c.self.view_is) (is_free-with_free (record { pages = c.self.inside.pages.items; free = c.self.inside.free.items }) c.page.inside.number k apart)
