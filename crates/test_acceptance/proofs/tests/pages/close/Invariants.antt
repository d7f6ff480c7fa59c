use Rattle.std.proofs.Common.{length}
use Rattle.test_acceptance.proofs.tests.pages.close.Given as goal

abbrev pub decreases-loop : goal.decreases-loop
decreases-loop l = length l.links
