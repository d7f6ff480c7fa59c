-- `count_right`: of the callers the last goes first.
use Rattle.std.proofs.Common.{◌∷◌, [], ap, arith, length}
use Rattle.std.proofs.lemmas.List.{length-append}
use Rattle.test_fleet_threads.proofs.tests.readers.count_right.Goals as goal

pub loop-reader-smaller : goal.loop-reader-smaller
loop-reader-smaller g c = omega (
  arith,
  ap length c.in-Some.ensures.items,
  length-append c.pop.new.self.0 (c.in-Some.reader ∷ []),
)

pub end-requires : goal.end-requires
end-requires g c = c.in_default.ensures.items.1
