use Rattle.std.proofs.Common.{arith}
use Rattle.std.proofs.lemmas.List.{length-set}
use Rattle.kr_pages.proofs.Pools.{IsPool-with_words}
use Rattle.kr_pages.proofs.Pages.words_mut.Goals as goal

pub invariant_of-self-lent : goal.invariant_of-self-lent
invariant_of-self-lent c =
    let below = rw (← c.self.view_is, ← c.page.view_is) at c.requires.below in
    let out = rw (← c.self.view_is, ← c.page.view_is) at c.requires.out in
    λ w.
    let size = length-set c.self.inside.pages.items c.page.inside.number w in
    (IsPool-with_words _ c.page.inside.number w c.self.invariant.0 below out, omega (arith, size, c.self.invariant.1), omega (arith, size, c.self.invariant.2))
