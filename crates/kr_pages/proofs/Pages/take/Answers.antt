use Rattle.kr_pages.proofs.Pools.{IsPool-taken, Takes-last}
use Rattle.kr_pages.proofs.Pages.take.Goals as goal

pub invariant_of-self-2 : goal.invariant_of-self-2
invariant_of-self-2 c = (
  IsPool-taken c.self.inside.pages.items c.pop.new.self.items c.in-Some.number (rw c.in-Some.ensures.items at c.self.invariant.0),
  c.self.invariant.1,
  rw c.in-Some.ensures.capacity c.self.invariant.2,
)

pub returns-clause-pool : goal.returns-clause-pool
returns-clause-pool c = (invariant_of-self-2 c).0

pub returns-clause-taken : goal.returns-clause-taken
returns-clause-taken c =
    rw (← c.self.view_is, c.in-Some.ensures.items)
    (Takes-last c.self.inside.pages.items c.pop.new.self.items c.in-Some.number (rw c.in-Some.ensures.items at c.self.invariant.0))
