use Rattle.std.proofs.Common.{arith}
use Rattle.kr_pages.proofs.Pools.{free-le}
use Rattle.kr_pages.proofs.Pages.free.Goals as goal

pub overflow_cast-result : goal.overflow_cast-result
overflow_cast-result c = omega (arith, free-le _ c.self.invariant.0, c.self.invariant.1, c.len.ensures)
