-- `read`: the call may be made, and what is kept holds behind it.
use Rattle.std.proofs.Common.{arith, []}
use Rattle.kr_provider.specs.Names.{names_of}
use Rattle.test_fleet_calls.proofs.Calling.{bench_asked, called, links_serve}
use Rattle.test_fleet_calls.proofs.desk.Desk.read.Goals as goal

pub read-done-requires-clause-links : goal.read-done-requires-clause-links
read-done-requires-clause-links g c = links_serve c.self.invariant

pub invariant_of-self : goal.invariant_of-self
invariant_of-self g c = called g.L.Kms.link c.self.inside.bench c.read-done.new.bench 3 0 []
    c.read-done.result c.self.invariant c.read-done.ensures.adds (omega arith)
    c.read-done.ensures.idle c.is_spent-self-inside.ensures
    (bench_asked g.L.Kms.link (names_of g.L.Kms.link c.self.inside.bench.links)
    c.self.inside.bench c.read-done.new.bench c.self.invariant.1 c.read-done.ensures.asked
    c.read-done.ensures.pages)
