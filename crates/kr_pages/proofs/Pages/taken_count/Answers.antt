use Rattle.std.proofs.Common.{arith}
use Rattle.kr_pages.proofs.Pools.{free-le}
use Rattle.kr_pages.proofs.Pages.taken_count.Goals as goal

pub overflow_sub-result : goal.overflow_sub-result
overflow_sub-result c = omega (arith, free-le _ c.self.invariant.0, c.len.ensures, c.len-2.ensures)

pub returns-clause-out : goal.returns-clause-out
returns-clause-out c = rw (← c.self.view_is) (omega (arith, free-le _ c.self.invariant.0, c.len.ensures, c.len-2.ensures))
