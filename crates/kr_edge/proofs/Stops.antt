-- How far the stops of a file went on, over its calls.
use Rattle.std.proofs.Common.{ℕ, ◌+◌, Option, None, Some, ◌∙◌, arith}
use Rattle.kr_edge.specs.Placed.{NoneFailed, Stops}
use Rattle.kr_edge.specs.inner.Stops.{WasInterrupted}

-- over two calls
pub more_often : (n m : ℕ) (a b c : Option Stops) → WasInterrupted n a b → WasInterrupted m b c
    → WasInterrupted (n + m) a c
more_often n m None b c first next = tt
more_often n m (Some a) None c first next = absurd first
more_often n m (Some a) (Some b) None first next = absurd next
more_often n m (Some a) (Some b) (Some c) first next =
    (omega (arith, first.0, next.0), omega (arith, first.1, next.1))

pub none_more : (a b c : Option Stops) → NoneFailed a b → NoneFailed b c → NoneFailed a c
none_more None b c first next = tt
none_more (Some a) None c first next = absurd first
none_more (Some a) (Some b) None first next = absurd next
none_more (Some a) (Some b) (Some c) first next = next ∙ first
