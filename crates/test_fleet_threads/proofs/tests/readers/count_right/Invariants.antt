-- `count_right`: each round takes a caller away.
use Rattle.std.proofs.Common.{length}
use Rattle.test_fleet_threads.proofs.tests.readers.count_right.Given as goal

abbrev pub decreases-loop-reader : goal.decreases-loop-reader
decreases-loop-reader g l = length l.readers.0
