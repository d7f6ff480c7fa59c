-- `step`: the call may be made, and what is kept holds behind it.
use Rattle.std.proofs.Common.{arith, []}
use Rattle.kr_provider.specs.Names.{names_of}
use Rattle.test_fleet_calls.proofs.Calling.{bench_asked, called, links_serve}
use Rattle.test_fleet_calls.proofs.desk.Desk.step.Goals as goal

pub rewrite_next-done-requires-clause-links : goal.rewrite_next-done-requires-clause-links
rewrite_next-done-requires-clause-links g c = links_serve c.self.invariant

pub invariant_of-self : goal.invariant_of-self
invariant_of-self g c = called g.L.Kms.link c.self.inside.bench c.rewrite_next-done.new.bench 4 0 []
    c.rewrite_next-done.result c.self.invariant c.rewrite_next-done.ensures.adds (omega arith)
    c.rewrite_next-done.ensures.idle c.is_spent-self-inside.ensures
    (bench_asked g.L.Kms.link (names_of g.L.Kms.link c.self.inside.bench.links)
    c.self.inside.bench c.rewrite_next-done.new.bench c.self.invariant.1 c.rewrite_next-done.ensures.asked
    c.rewrite_next-done.ensures.pages)
